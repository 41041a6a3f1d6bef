-- How many answers an entry has, and to which tickets.
use Rattle.std.proofs.Common.{◌≡◌, ℕ, zero, suc, ◌<◌, ◌≤◌, Bool, true, false, eqb, List, [], ◌∷◌, length, get_or, All}
use Rattle.std.proofs.Common.{Option, Some, None, is_some, sym, refl, ap, ◌∙◌, arith, inl, inr, if◌then◌else◌}
use Rattle.std.proofs.Common.{length-append, true≢false}
use Rattle.std.proofs.lemmas.Bool.{cases_lt}
use Rattle.arn_ids.specs.declared.config.Config.{Config}
use Rattle.arn_ids.specs.Faults.{first_fault}
use Rattle.arn_ids.proofs.Bounds.{environments_256}
use Rattle.call_types.specs.declared.answer.Answer.{Answer}
use Rattle.call_types.specs.declared.call.Entry.{Entry}
use Rattle.call_model.specs.History.{answer_in}
use Rattle.call_model.specs.Next.{IsLegal, Follows}
use Rattle.environment_step.proofs.Rising.{some_at}
use Rattle.env_phase.proofs.Homes.{past}
use Rattle.env_phase.proofs.Meets.{ten_members}
use Rattle.fleet.specs.declared.reach.Reach.{Reach}
use Rattle.fleet.specs.declared.reach.Reach.TheVariants.{Nowhere, At, Everywhere}
use Rattle.account_book.specs.Fleets.{moves_at}
use Rattle.account_book.specs.Ledgers.{answer_limit}
use Rattle.fleet.specs.Reaches.{reach}
use Rattle.account_book.specs.OwnAnswers.{book_answer, with_own, homed}
use Rattle.fleet.specs.Sites.{site, sites}
use Rattle.account_book.specs.Taking.{request_counts, IsKnown, AllKnown}
use Rattle.account_book.proofs.EntryAnswers.{answers_parts}
use Rattle.account_book.proofs.EntryMoves.{homed_nowhere, homed_at, homed_everywhere}
use Rattle.account_book.proofs.Extent.{put_all_length, merged_few}
use Rattle.account_book.proofs.FleetMeets.{sites_length}
use Rattle.account_book.proofs.Visiting.{reach_within, few_there, few_everywhere}

some_in : (xs : List (ℕ × Answer)) (i : ℕ) (d : ℕ × Answer) → i < length xs → is_some (answer_in xs (get_or xs i d).0) ≡ true
some_in [] i d lt = absurd (omega arith)
some_in (x ∷ xs) zero d lt = ap is_some (some_at x xs x.0 refl)
some_in (x ∷ xs) (suc i) d lt = go (eqb x.0 (get_or xs i d).0) (some_in xs i d (omega arith))
  where
    go : (b : Bool) → is_some (answer_in xs (get_or xs i d).0) ≡ true → is_some (if b then Some x.1 else answer_in xs (get_or xs i d).0) ≡ true
    go true q = refl
    go false q = q

-- every ticket that is answered is one of the history or the entry's own
pub tickets_within : (config : Config) (h : List Entry) (entry : Entry) → Follows config h entry → All (λ a. a.0 ≤ length h) entry.answers
tickets_within config h entry w i d lt = elim (cases_lt (length h) (get_or entry.answers i d).0) [
  | inl gt ↦ absurd (true≢false (sym (some_in entry.answers i d lt) ∙ ap is_some (past config h entry (get_or entry.answers i d).0 w gt)))
  | inr le ↦ le
]

few_homed : (config : Config) (h : List Entry) (entry : Entry) → first_fault config ≡ None → IsLegal config h
    → Follows config h entry → AllKnown config h → IsKnown config entry.call → length (homed h entry) ≤ 3328
few_homed config h entry sound l w k known = go (reach h entry.place entry.call) refl
  where
    go : (r : Reach) → reach h entry.place entry.call ≡ r → length (homed h entry) ≤ 3328
    go Nowhere q = rw (homed_nowhere config h entry w q) (omega arith)
    go (At e) q =
        let within = reach_within config h entry.call entry.place e k known w.place q in
        rw (homed_at config h entry e l w q within.0 within.1)
        (omega (arith, put_all_length (moves_at (length h) entry.moment (request_counts config (entry ∷ h)) entry.call (site config h e)) [], few_there config h entry e l w q within.0 within.1, ten_members config h e l))
    go Everywhere q =
        rw (homed_everywhere config h entry l w k known q)
        (omega (
          arith,
          merged_few (moves_at (length h) entry.moment (request_counts config (entry ∷ h)) entry.call) (sites config h) []
              (few_everywhere config h entry l w q),
          sites_length config h,
          environments_256 config sound,
        ))

pub few_answers : (config : Config) (h : List Entry) (entry : Entry) → first_fault config ≡ None → IsLegal config h
    → Follows config h entry → AllKnown config h → IsKnown config entry.call → length entry.answers ≤ answer_limit
few_answers config h entry sound l w k known =
    rw (answers_parts config h entry w) (one (book_answer config h entry.call) (few_homed config h entry sound l w k known))
  where
    one : (o : Option Answer) → length (homed h entry) ≤ 3328 → length (with_own (length h) o (homed h entry)) ≤ 3329
    one None le = omega (arith, le)
    one (Some a) le = rw (length-append (homed h entry) ((length h, a) ∷ [])) (omega (arith, le))
