-- What contracts see of a refusal: its number and its name.
use Rattle.iw_schedules.specs.declared.refusals.Refusal.{Refusal}
use Rattle.iw_schedules.specs.Answers.{Numbered}

abbrev pub shown_refusal : Refusal → Numbered
shown_refusal refusal = (refusal.number, refusal.name.now)
