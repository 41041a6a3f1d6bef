use Rattle.std.proofs.Common.{◌≡◌, Option, Some, None, Result, Ok, Err, refl, ap}
use Rattle.std.specs.Arc.{arc_value}
use Rattle.std.specs.Result.{result_transpose}
use Rattle.std.specs.declared.alloc.AllocError.{AllocError}
use Rattle.long_poll.specs.HistoryFrames.{answer_of}
use Rattle.long_poll.specs.declared.streamed_body.history_body.Stage.TheVariants.{Ended, Entry}
use Rattle.long_poll.proofs.Pieces.{shown, shown_first, entry_first}
use Rattle.long_poll.proofs.streamed_body.history_body.HistoryBodyBody.poll_frame.Goals as goal

transposed : {A E : Type 0} (r : Result (Option A) E) → result_transpose r ≡ answer_of r
transposed (Ok None) = refl
transposed (Ok (Some x)) = refl
transposed (Err e) = refl

pub returns-in-Some-clause-value : goal.returns-in-Some-clause-value
returns-in-Some-clause-value g c =
    let here : c.args.self.now.rest ≡ Some c.in-Some.text = cc in
    shown g.S.Service _ _ _ c.args.self.now.rest _ _ c.args.self.now.stage _ here refl _ c.go_on.ensures.value

pub returns-in-Some-clause-rest : goal.returns-in-Some-clause-rest
returns-in-Some-clause-rest g c =
    let here : c.args.self.now.rest ≡ Some c.in-Some.text = cc in
    shown_first g.S.Service _ _ _ c.args.self.now.rest _ _ c.args.self.now.stage _ here refl _ _ _
    (ap arc_value c.go_on.ensures.same) c.go_on.ensures.value c.go_on.ensures.stage

pub returns-in-Opening-clause-value : goal.returns-in-Opening-clause-value
returns-in-Opening-clause-value g c =
    let none : c.args.self.now.rest ≡ None = cc in
    shown g.S.Service _ _ _ c.args.self.now.rest _ _ c.args.self.now.stage _ none c.in-Opening.is _ c.opening.ensures.value

pub returns-in-Opening-clause-rest : goal.returns-in-Opening-clause-rest
returns-in-Opening-clause-rest g c =
    let none : c.args.self.now.rest ≡ None = cc in
    shown_first g.S.Service _ _ _ c.args.self.now.rest _ _ c.args.self.now.stage _ none c.in-Opening.is _ _ _
    (ap arc_value c.opening.ensures.same) c.opening.ensures.value c.opening.ensures.stage

pub returns-in-Entry-clause-value : goal.returns-in-Entry-clause-value
returns-in-Entry-clause-value g c =
    let none : c.args.self.now.rest ≡ None = cc in
    shown g.S.Service (arc_value c.args.self.now.service) c.args.self.now.token c.entry.new.self.token c.args.self.now.rest None
    c.entry.new.self.rest c.args.self.now.stage (Entry c.in-Entry.ticket) none c.in-Entry.is c.transpose.result
    (rw (c.transpose.ensures, transposed c.entry.result) c.entry.ensures.value)

pub returns-in-Entry-clause-rest : goal.returns-in-Entry-clause-rest
returns-in-Entry-clause-rest g c =
    let none : c.args.self.now.rest ≡ None = cc in
    rw (c.transpose.ensures, transposed c.entry.result)
    (entry_first g.S.Service _ _ _ c.args.self.now.rest _ c.args.self.now.stage _ none c.in-Entry.is _ _ _ (ap arc_value c.entry.ensures.same) c.entry.ensures.value c.entry.ensures.stage)

pub returns-in-Ended-clause-value : goal.returns-in-Ended-clause-value
returns-in-Ended-clause-value g c =
    let none : c.args.self.now.rest ≡ None = cc in
    shown {E = AllocError} g.S.Service _ c.args.self.now.token c.args.self.now.token c.args.self.now.rest None None c.args.self.now.stage Ended none c.in-Ended.is None tt
