use Rattle.std.proofs.Common.{◌≡◌, ℕ, not, refl, rules}
use Rattle.std.proofs.lemmas.Map.Entries.{filter_from_retain_pairs}
use Rattle.std.specs.List.{filter}
use Rattle.handover.specs.Counters.{is_at_handler}
use Rattle.handover.proofs.Sound.{sound_filtered}
use Rattle.handover.proofs.counter.Requests.end_handler.Goals as goal

kept : (c : goal.After-retain) → c.retain.new.self.entries
    ≡ filter (λ (t : ℕ × ℕ). not (is_at_handler c.args.handler t)) c.self.inside.taken.entries
kept c = filter_from_retain_pairs _ (λ g. g.0.now ≡ c.args.handler)
    (λ (t : ℕ × ℕ). not (is_at_handler c.args.handler t)) (λ g k v b w g' is t. search rules) _ _ _ refl c.retain.ensures.filtered

pub invariant_of-self : goal.invariant_of-self
invariant_of-self c = rw (kept c) (sound_filtered _ _ _ _ c.self.invariant _)

pub returns : goal.returns
returns c = rw (kept c, ← c.self.view_is) refl
