use Rattle.iw_schedules.proofs.ScheduleLaws.{found, only, first}
use Rattle.iw_schedules.proofs.schedule.read_schedule.Goals as goal

pub returns-clause-found : goal.returns-clause-found
returns-clause-found g c = found c.args.text.now (λ events. events.items) c.read_lines.result c.read_lines.ensures

pub returns-clause-only : goal.returns-clause-only
returns-clause-only g c = λ events is. only c.args.text.now events (λ events. events.items) c.read_lines.result is c.read_lines.ensures

pub returns-clause-first : goal.returns-clause-first
returns-clause-first g c = first c.args.text.now (λ events. events.items) c.read_lines.result c.read_lines.ensures
