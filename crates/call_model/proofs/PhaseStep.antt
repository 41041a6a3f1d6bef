-- The phase of an environment after an entry, from its stand before it.
use Rattle.std.proofs.Common.{◌≡◌, ℕ, Bool, true, false, eqb, List, [], ◌∷◌, ◌++◌, length, Option, None, refl, ap, ◌∙◌}
use Rattle.std.proofs.Common.{inl, inr, is_some, ◌||◌, map, filter, if◌then◌else◌}
use Rattle.std.proofs.lemmas.Bool.Decides.{eqb_tells}
use Rattle.call_types.specs.declared.answer.Answer.{Answer}
use Rattle.call_types.specs.declared.answer.Phase.{Phase}
use Rattle.call_types.specs.declared.call.Entry.{Entry}
use Rattle.arn_ids.specs.declared.config.Config.{Config}
use Rattle.arn_ids.specs.Environments.{expected_at}
use Rattle.call_model.specs.History.{answer_in, answer_of, is_stop, stopped}
use Rattle.call_model.specs.Generation.{Generation, Member, TheRuntime, parked, members, ready, as_registered}
use Rattle.call_model.specs.Stand.{Stand, at_hand, bound_of}
use Rattle.call_model.specs.Table.{after_cell, reborn, settled}
use Rattle.call_model.specs.Life.{life, phase, stand, lived, after, seen, concerns, ends, first_part, limit_of, request_at, ends_here}
use Rattle.call_model.proofs.Scans.{IsBelow, generation_below, IsSilent, parked_step, members_step, member_step, still, asked, new_member}
use Rattle.call_model.proofs.Basics.{some-none}
use Rattle.call_model.proofs.Visits.{visit, if_concerned, if_ended}

pub filter_none : (p : ℕ × Answer → Bool) (pairs : List (ℕ × Answer)) (t : ℕ) → answer_in pairs t ≡ None → answer_in (filter p pairs) t ≡ None
filter_none p [] t e = refl
filter_none p (a ∷ rest) t e =
    elim (eqb_tells a.0 t) [
      | inl q ↦ absurd (some-none (rw q.0 at e))
      | inr q ↦ go q.0 (p a) (filter_none p rest t (rw q.0 at e))
    ]
  where
    go : eqb a.0 t ≡ false → (b : Bool) → answer_in (filter p rest) t ≡ None → answer_in (if b then a ∷ filter p rest else filter p rest) t ≡ None
    go q true ih = rw q ih
    go q false ih = ih

-- what an entry makes of the extensions and of the runtime's pending Next; first is the entry with its first answers
abbrev pub members_after : List Entry → Generation → Entry → Entry → ℕ → List Member → List Member
members_after h g first entry n before =
    new_member (first ∷ h) ((n, entry) ∷ g) (as_registered entry.call (answer_in entry.answers n)) ++ map (member_step first entry n) before

abbrev pub runtime_after : Entry → Entry → ℕ → Option ℕ → Option ℕ
runtime_after first entry n before = still first (asked TheRuntime entry.call n before)

-- the phase, as an environment computes it
abbrev pub phase_after : Config → ℕ → Entry → Bool → Bool → Option ℕ → List Member → Phase → Phase → Phase
phase_after config e entry over waits runtime members before cell =
    if ends before entry.call cell members then reborn over entry.moment (bound_of cell)
    else settled (limit_of config e entry.moment) (ready runtime members (expected_at config e)) waits cell

abbrev pub cell_of : Config → ℕ → Entry → ℕ → Stand → Phase
cell_of config e entry n s = after_cell entry.moment (limit_of config e entry.moment) n s entry.call

-- The phase after an entry that concerns the environment.
pub phase_step : (config : Config) (h : List Entry) (entry : Entry) (e : ℕ) → concerns h e entry ≡ true → answer_of h (length h) ≡ None → IsSilent h entry
    → phase config (entry ∷ h) e ≡ phase_after config e entry (is_stop entry.call || (stand config h e).stopped) (is_some (request_at config (first_part entry ∷ h) e (at_hand (cell_of config e entry (length h) (stand config h e)))))
    (runtime_after (first_part entry) entry (length h) (stand config h e).runtime)
    (members_after h (life config h e).generation (first_part entry) entry (length h) (stand config h e).members)
    (stand config h e).phase (cell_of config e entry (length h) (stand config h e))
unfolding life lived after seen
phase_step config h entry e c none quiet =
    ap (λ (b : Bool). (if_concerned b (visit config h e entry)).phase) c ∙ two_cases (ends_here (visit config h e entry))
    ∙ ap_two (members_step (first_part entry) entry h (life config h e).generation refl below none quiet)
    (parked_step (first_part entry) entry h (life config h e).generation TheRuntime refl below none)
  where
    g : Generation
    g = (length h, entry) ∷ (life config h e).generation

    below : IsBelow (length h) (life config h e).generation
    below = generation_below config h e

    cell : Phase
    cell = cell_of config e entry (length h) (stand config h e)

    waits : Bool
    waits = is_some (request_at config (first_part entry ∷ h) e (at_hand cell))

    two_cases : (b : Bool) → (if_ended b (visit config h e entry)).phase
        ≡ (if b then reborn (stopped (first_part entry ∷ h)) entry.moment (bound_of cell) else settled (limit_of config e entry.moment) (ready (parked (first_part entry ∷ h) g TheRuntime) (members (first_part entry ∷ h) g) (expected_at config e)) waits cell)
    two_cases true = refl
    two_cases false = refl

    ap_two : {xs ys : List Member} → xs ≡ ys → {r q : Option ℕ} → r ≡ q
        → phase_after config e entry (stopped (first_part entry ∷ h)) waits r xs (life config h e).phase cell ≡ phase_after config e entry (stopped (first_part entry ∷ h)) waits q ys (life config h e).phase cell
    ap_two p q = λ i. phase_after config e entry (stopped (first_part entry ∷ h)) waits (q i) (p i) (life config h e).phase cell
