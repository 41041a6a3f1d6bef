use Rattle.std.proofs.Common.{◌≡◌, ◌+◌, ◌-◌, ◌∷◌, ◌∙◌, ℕ, List, length, map, reverse, sym, ap, subst, arith}
use Rattle.std.proofs.lemmas.List.{length-reverse}
use Rattle.call_types.specs.declared.call.Entry.{Entry}
use Rattle.call_model.specs.Next.{IsLegal}
use Rattle.fleet.specs.declared.reach.Reach.{Reach}
use Rattle.fleet.specs.Reaches.{before}
use Rattle.fleet.specs.Reaches.{reach}
use Rattle.trace.specs.Sites.{sites, visited_by}
use Rattle.fleet.proofs.Earlier.{legal_drop, length_before, one_later}
use Rattle.trace.proofs.Following.{few_sites, visit_sites}
use Rattle.trace.proofs.Reaching.{numbered_sites}
use Rattle.trace.proofs.follower.Follower.follow.Goals as goal

pub take-requires-clause-few : goal.take-requires-clause-few
take-requires-clause-few c =
    let h : List Entry = reverse c.args.past.now.entries.now.0 in
    let long : length (before h c.args.ticket) ≡ c.args.ticket = length_before h c.args.ticket (omega (arith, c.requires.there, length-reverse c.args.past.now.entries.now.0)) in
    rw c.requires.at
    (few_sites c.args.past.now.config.now (before h c.args.ticket) (legal_drop c.args.past.now.config.now (length h - c.args.ticket) h c.requires.legal) (omega (arith, long, c.requires.there, c.requires.few)))

pub take-requires-clause-numbered : goal.take-requires-clause-numbered
take-requires-clause-numbered c = rw c.requires.at (numbered_sites c.args.past.now.config.now (before (reverse c.args.past.now.entries.now.0) c.args.ticket))

pub returns : goal.returns
returns c =
    let h : List Entry = reverse c.args.past.now.entries.now.0 in
    let k : List Entry = before h c.args.ticket in
    let x : Entry = c.at-entry.result.now in
    let long : length k ≡ c.args.ticket = length_before h c.args.ticket (omega (arith, c.requires.there, length-reverse c.args.past.now.entries.now.0)) in
    let grown : before h (c.args.ticket + 1) ≡ x ∷ k = one_later c.args.past.now.entries.now.0 c.args.ticket x c.requires.there ∙ ap (λ (y : Entry). y ∷ k) (sym (c.at-entry.ensures x)) in
    let legal : IsLegal c.args.past.now.config.now (x ∷ k) = subst (IsLegal c.args.past.now.config.now) grown (legal_drop c.args.past.now.config.now (length h - (c.args.ticket + 1)) h c.requires.legal) in
    c.take.ensures
    ∙ ap (λ (n : ℕ). map (visited_by n x.moment c.of.result x.call) c.args.self.now) (sym long)
    ∙ ap (λ (r : Reach). map (visited_by (length k) x.moment r x.call) c.args.self.now) c.of.ensures
    ∙ ap (map (visited_by (length k) x.moment (reach k x.place x.call) x.call)) c.requires.at
    ∙ visit_sites c.args.past.now.config.now k x legal
    ∙ ap (sites c.args.past.now.config.now) (sym grown)
