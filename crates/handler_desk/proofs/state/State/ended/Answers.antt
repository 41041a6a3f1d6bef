use Rattle.std.proofs.Common.{◌≡◌, ℕ, not, refl, rules}
use Rattle.std.proofs.lemmas.Map.Entries.{filter_from_retain_pairs}
use Rattle.std.specs.List.{filter}
use Rattle.handler_desk.specs.declared.state.Seat.{Seat}
use Rattle.handler_desk.specs.Seats.{is_taken_by}
use Rattle.handler_desk.proofs.state.State.ended.Goals as goal

kept : (c : goal.After-end_handler) → c.retain.new.self.entries
    ≡ filter (λ (seat : ℕ × Seat). not (is_taken_by c.args.handler seat)) c.args.self.now.seats.entries
kept c = filter_from_retain_pairs _ (λ g. g.0.now ≡ c.args.handler)
    (λ (seat : ℕ × Seat). not (is_taken_by c.args.handler seat)) (λ g k v b w g' is t. search rules)
    _ _ _ refl c.retain.ensures.filtered

pub returns : goal.returns
returns c = record { attendance = c.ended.ensures; failed = c.end_handler.ensures; seats = kept c }
