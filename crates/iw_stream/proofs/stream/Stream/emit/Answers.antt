use Rattle.std.proofs.Common.{◌++◌, ◌+◌, ◌≤◌, length, ap, sym, ◌∙◌, subst}
use Rattle.std.specs.Prelude.{IfOk, OnOk, OnErr, ◌≡◌, vec_len, vec_capacity}
use Rattle.iw_stream.specs.declared.answer.Emission.TheVariants as emissions
use Rattle.iw_stream.specs.Stream.{Ready, due, message_due, emission_due, left_due, octets_due, BeginsReads}
use Rattle.iw_stream.proofs.Dues.{due_message, due_ready, due_startup, speaks}
use Rattle.iw_stream.proofs.stream.Stream.emit.Goals as goal

pub returns-then-owes_frame-clause-emission : goal.returns-then-owes_frame-clause-emission
returns-then-owes_frame-clause-emission g c =
    let s = c.args.self.now in
    let table = c.args.memory.now in
    subst (λ d. IfOk c.emit_startup.result (λ e. e ≡ emission_due table s d)) (sym (due_startup s (sym c.owes_frame.ensures ∙ c.if-owes_frame.true))) (c.emit_startup.ensures.emission table)

pub returns-then-owes_frame-clause-out : goal.returns-then-owes_frame-clause-out
returns-then-owes_frame-clause-out g c =
    let s = c.args.self.now in
    let table = c.args.memory.now in
    subst (λ d. OnOk c.emit_startup.result (c.emit_startup.new.out.items ≡ c.args.out.now.items ++ octets_due table s d)) (sym (due_startup s (sym c.owes_frame.ensures ∙ c.if-owes_frame.true))) (c.emit_startup.ensures.out table)

pub returns-then-owes_frame-clause-after : goal.returns-then-owes_frame-clause-after
returns-then-owes_frame-clause-after g c =
    let s = c.args.self.now in
    let table = c.args.memory.now in
    subst (λ d. OnOk c.emit_startup.result (c.emit_startup.new.self ≡ left_due table s d)) (sym (due_startup s (sym c.owes_frame.ensures ∙ c.if-owes_frame.true))) (c.emit_startup.ensures.after table)

pub returns-then-owes_frame-clause-room : goal.returns-then-owes_frame-clause-room
returns-then-owes_frame-clause-room g c =
    let s = c.args.self.now in
    let table = c.args.memory.now in
    let out = c.args.out.now in
    subst (λ d. vec_len out + length (octets_due table s d) ≤ vec_capacity out → OnErr c.emit_startup.result (BeginsReads s d)) (sym (due_startup s (sym c.owes_frame.ensures ∙ c.if-owes_frame.true))) (c.emit_startup.ensures.room table)

pub returns-in-Some-clause-emission : goal.returns-in-Some-clause-emission
returns-in-Some-clause-emission g c =
    let s = c.args.self.now in
    let table = c.args.memory.now in
    let due : due s ≡ Ready c.in-Some.rtr = due_ready s c.in-Some.rtr (sym c.owes_frame.ensures ∙ c.if-owes_frame.false) (speaks s (sym c.is_mute.ensures ∙ c.if-is_mute.false)) (sym c.is_mute.ensures ∙ c.if-is_mute.false) (sym c.rtr_due.ensures ∙ c.in-Some.is) in
    subst (λ d. IfOk c.emit_rtr.result (λ e. e ≡ emission_due table s d)) (sym due) (c.emit_rtr.ensures.emission table)

pub returns-in-Some-clause-out : goal.returns-in-Some-clause-out
returns-in-Some-clause-out g c =
    let s = c.args.self.now in
    let table = c.args.memory.now in
    let due : due s ≡ Ready c.in-Some.rtr = due_ready s c.in-Some.rtr (sym c.owes_frame.ensures ∙ c.if-owes_frame.false) (speaks s (sym c.is_mute.ensures ∙ c.if-is_mute.false)) (sym c.is_mute.ensures ∙ c.if-is_mute.false) (sym c.rtr_due.ensures ∙ c.in-Some.is) in
    subst (λ d. OnOk c.emit_rtr.result (c.emit_rtr.new.out.items ≡ c.args.out.now.items ++ octets_due table s d)) (sym due) (c.emit_rtr.ensures.out table)

pub returns-in-Some-clause-after : goal.returns-in-Some-clause-after
returns-in-Some-clause-after g c =
    let s = c.args.self.now in
    let table = c.args.memory.now in
    let due : due s ≡ Ready c.in-Some.rtr = due_ready s c.in-Some.rtr (sym c.owes_frame.ensures ∙ c.if-owes_frame.false) (speaks s (sym c.is_mute.ensures ∙ c.if-is_mute.false)) (sym c.is_mute.ensures ∙ c.if-is_mute.false) (sym c.rtr_due.ensures ∙ c.in-Some.is) in
    subst (λ d. OnOk c.emit_rtr.result (c.emit_rtr.new.self ≡ left_due table s d)) (sym due) (c.emit_rtr.ensures.after table)

pub returns-in-Some-clause-room : goal.returns-in-Some-clause-room
returns-in-Some-clause-room g c =
    let s = c.args.self.now in
    let table = c.args.memory.now in
    let due : due s ≡ Ready c.in-Some.rtr = due_ready s c.in-Some.rtr (sym c.owes_frame.ensures ∙ c.if-owes_frame.false) (speaks s (sym c.is_mute.ensures ∙ c.if-is_mute.false)) (sym c.is_mute.ensures ∙ c.if-is_mute.false) (sym c.rtr_due.ensures ∙ c.in-Some.is) in
    subst (λ d. vec_len c.args.out.now + length (octets_due table s d) ≤ vec_capacity c.args.out.now → OnErr c.emit_rtr.result (BeginsReads s d)) (sym due) (c.emit_rtr.ensures.room table)

pub returns-in-Some-clause-memory : goal.returns-in-Some-clause-memory
returns-in-Some-clause-memory g c =
    let s = c.args.self.now in
    let table = c.args.memory.now in
    let due : due s ≡ Ready c.in-Some.rtr = due_ready s c.in-Some.rtr (sym c.owes_frame.ensures ∙ c.if-owes_frame.false) (speaks s (sym c.is_mute.ensures ∙ c.if-is_mute.false)) (sym c.is_mute.ensures ∙ c.if-is_mute.false) (sym c.rtr_due.ensures ∙ c.in-Some.is) in
    λ none. let no : ⊥ = (let is : emission_due table s (Ready c.in-Some.rtr) ≡ emissions.Nothing = ap (emission_due table s) (sym due) ∙ none in cc) in absurd no

pub returns-in-Some-clause-denied : goal.returns-in-Some-clause-denied
returns-in-Some-clause-denied g c =
    let s = c.args.self.now in
    let table = c.args.memory.now in
    let due : due s ≡ Ready c.in-Some.rtr = due_ready s c.in-Some.rtr (sym c.owes_frame.ensures ∙ c.if-owes_frame.false) (speaks s (sym c.is_mute.ensures ∙ c.if-is_mute.false)) (sym c.is_mute.ensures ∙ c.if-is_mute.false) (sym c.rtr_due.ensures ∙ c.in-Some.is) in
    λ fault told. let no : ⊥ = (let is : emission_due table s (Ready c.in-Some.rtr) ≡ emissions.Fault fault = ap (emission_due table s) (sym due) ∙ told in cc) in absurd no

pub returns-in-None-clause-emission : goal.returns-in-None-clause-emission
returns-in-None-clause-emission g c =
    let s = c.args.self.now in
    let table = c.args.memory.now in
    let due : due s ≡ message_due s = due_message s (sym c.owes_frame.ensures ∙ c.if-owes_frame.false) (speaks s (sym c.is_mute.ensures ∙ c.if-is_mute.false)) (sym c.is_mute.ensures ∙ c.if-is_mute.false) (sym c.rtr_due.ensures ∙ c.in-None.is) in
    subst (λ d. IfOk c.emit_message.result (λ e. e ≡ emission_due table s d)) (sym due) c.emit_message.ensures.emission

pub returns-in-None-clause-out : goal.returns-in-None-clause-out
returns-in-None-clause-out g c =
    let s = c.args.self.now in
    let table = c.args.memory.now in
    let due : due s ≡ message_due s = due_message s (sym c.owes_frame.ensures ∙ c.if-owes_frame.false) (speaks s (sym c.is_mute.ensures ∙ c.if-is_mute.false)) (sym c.is_mute.ensures ∙ c.if-is_mute.false) (sym c.rtr_due.ensures ∙ c.in-None.is) in
    subst (λ d. OnOk c.emit_message.result (c.emit_message.new.out.items ≡ c.args.out.now.items ++ octets_due table s d)) (sym due) c.emit_message.ensures.out

pub returns-in-None-clause-after : goal.returns-in-None-clause-after
returns-in-None-clause-after g c =
    let s = c.args.self.now in
    let table = c.args.memory.now in
    let due : due s ≡ message_due s = due_message s (sym c.owes_frame.ensures ∙ c.if-owes_frame.false) (speaks s (sym c.is_mute.ensures ∙ c.if-is_mute.false)) (sym c.is_mute.ensures ∙ c.if-is_mute.false) (sym c.rtr_due.ensures ∙ c.in-None.is) in
    subst (λ d. OnOk c.emit_message.result (c.emit_message.new.self ≡ left_due table s d)) (sym due) c.emit_message.ensures.after

pub returns-in-None-clause-room : goal.returns-in-None-clause-room
returns-in-None-clause-room g c =
    let s = c.args.self.now in
    let table = c.args.memory.now in
    let due : due s ≡ message_due s = due_message s (sym c.owes_frame.ensures ∙ c.if-owes_frame.false) (speaks s (sym c.is_mute.ensures ∙ c.if-is_mute.false)) (sym c.is_mute.ensures ∙ c.if-is_mute.false) (sym c.rtr_due.ensures ∙ c.in-None.is) in
    subst (λ d. vec_len c.args.out.now + length (octets_due table s d) ≤ vec_capacity c.args.out.now → OnErr c.emit_message.result (BeginsReads s d)) (sym due) c.emit_message.ensures.room

pub returns-in-None-clause-memory : goal.returns-in-None-clause-memory
returns-in-None-clause-memory g c =
    let s = c.args.self.now in
    let table = c.args.memory.now in
    let due : due s ≡ message_due s = due_message s (sym c.owes_frame.ensures ∙ c.if-owes_frame.false) (speaks s (sym c.is_mute.ensures ∙ c.if-is_mute.false)) (sym c.is_mute.ensures ∙ c.if-is_mute.false) (sym c.rtr_due.ensures ∙ c.in-None.is) in
    λ none. c.emit_message.ensures.memory (ap (emission_due table s) (sym due) ∙ none)

pub returns-in-None-clause-denied : goal.returns-in-None-clause-denied
returns-in-None-clause-denied g c =
    let s = c.args.self.now in
    let table = c.args.memory.now in
    let due : due s ≡ message_due s = due_message s (sym c.owes_frame.ensures ∙ c.if-owes_frame.false) (speaks s (sym c.is_mute.ensures ∙ c.if-is_mute.false)) (sym c.is_mute.ensures ∙ c.if-is_mute.false) (sym c.rtr_due.ensures ∙ c.in-None.is) in
    λ fault told. c.emit_message.ensures.denied fault (ap (emission_due table s) (sym due) ∙ told)
