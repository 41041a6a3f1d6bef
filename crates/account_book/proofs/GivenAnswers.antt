-- How many answers a call leads to, its own entry's and those of the expiries before it.
use Rattle.std.proofs.Common.{◌≡◌, ℕ, suc, ◌+◌, ◌*◌, ◌≤◌, ◌++◌, Bool, true, false, List, [], ◌∷◌, length, All, Option}
use Rattle.std.proofs.Common.{Some, None, sym, refl, ap, subst, ◌∙◌, ◌-◌, arith, if◌then◌else◌, length-append}
use Rattle.std.proofs.lemmas.List.Elements.{All-get_or}
use Rattle.arn_ids.specs.Limits.{most_extensions}
use Rattle.arn_ids.specs.declared.config.Config.{Config}
use Rattle.arn_ids.specs.Environments.{owners}
use Rattle.call_types.specs.declared.answer.Answer.{Answer}
use Rattle.call_types.specs.declared.call.Call.{Call}
use Rattle.call_types.specs.declared.call.Call.TheVariants.{Expire}
use Rattle.call_types.specs.declared.call.Entry.{Entry}
use Rattle.environment_step.specs.After.{fixed_of, step_at, count_at}
use Rattle.call_model.specs.History.{is_stop}
use Rattle.call_model.specs.Life.{stand, concerns}
use Rattle.call_model.specs.Next.{IsLegal, Follows, IsTimely, added, next, due, expiries, entry_of, moment_at}
use Rattle.call_model.proofs.Added.{added_length}
use Rattle.environment_step.proofs.Frame.{stand_elsewhere}
use Rattle.call_model.proofs.NextLegal.{legal_next}
use Rattle.environment_step.proofs.StepLaws.{stand_is}
use Rattle.env_phase.specs.Taking.{registered_name}
use Rattle.env_phase.proofs.Extent.{none_joins}
use Rattle.call_types.specs.Within.{IsWithin}
use Rattle.fleet.specs.declared.reach.Reach.{Reach}
use Rattle.fleet.specs.declared.reach.Reach.TheVariants.{Nowhere, At, Everywhere}
use Rattle.fleet.specs.declared.site.Site.{Site}
use Rattle.account_book.specs.Answering.{answers_in, most_answers, most_of_one}
use Rattle.account_book.specs.Room.{IsNarrow}
use Rattle.account_book.specs.Fleets.{no_site, moves_at}
use Rattle.fleet.specs.Reaches.{reach}
use Rattle.account_book.specs.OwnAnswers.{book_answer, with_own, homed}
use Rattle.fleet.specs.Sites.{site, sites}
use Rattle.account_book.specs.Taking.{request_counts, IsKnown, AllKnown}
use Rattle.account_book.proofs.EntryAnswers.{answers_parts}
use Rattle.account_book.proofs.EntryMoves.{homed_nowhere, homed_at, homed_everywhere}
use Rattle.account_book.proofs.Expiring.{due_within}
use Rattle.account_book.proofs.Extent.{put_all_length, merged_few}
use Rattle.account_book.proofs.FleetMeets.{sites_length}
use Rattle.account_book.proofs.Reaching.{AreExpiries, are_expiries, no_expiry}
use Rattle.account_book.proofs.Visiting.{reach_within, site_of, no_stop, all_stop, few_there, few_everywhere}
use Rattle.account_book.proofs.Visits.{site_is_at}

-- what is known of every environment is known by its number
pub narrow_sites : (config : Config) (h : List Entry) (widest : ℕ)
    → All (λ s. length s.environment.stand.members ≤ widest) (sites config h) → IsNarrow config h widest
narrow_sites config h widest all e w =
    subst (λ (s : Site). length s.environment.stand.members ≤ widest)
    (sym (site_is_at (sites config h) e no_site w.0 (rw (sites_length config h) w.1)) ∙ site_of config h e w.0 w.1)
    (All-get_or (λ (s : Site). length s.environment.stand.members ≤ widest) (sites config h) (e - 1) no_site (omega (arith, w.0, w.1, sites_length config h)) all)

-- an entry that registers no extension leaves it so
narrow_on : (config : Config) (h : List Entry) (entry : Entry) (widest : ℕ) → IsLegal config h → Follows config h entry
    → registered_name entry.call ≡ None → IsNarrow config h widest → IsNarrow config (entry ∷ h) widest
narrow_on config h entry widest l w none k e there = go (concerns h e entry) refl
  where
    go : (b : Bool) → concerns h e entry ≡ b → length (stand config (entry ∷ h) e).members ≤ widest
    go false q = rw (stand_elsewhere IsTimely config h entry e l w q) (k e there)
    go true q =
        rw (stand_is config h entry e l w q)
        (omega (arith, none_joins (fixed_of config e) (step_at h entry (count_at config h entry e)) (stand config h e) entry.call none, k e there))

-- an entry has an answer of the book's own at most, beside those of its environments
own_more : (t : ℕ) (o : Option Answer) (moves : List (ℕ × Answer)) → length (with_own t o moves) ≤ length moves + 1
own_more t None moves = omega arith
own_more t (Some a) moves = omega (arith, length-append moves ((t, a) ∷ []))

pub few_in_entry : (config : Config) (h : List Entry) (entry : Entry) (widest : ℕ) → IsLegal config h
    → Follows config h entry → AllKnown config h → IsKnown config entry.call → IsNarrow config h widest
    → length entry.answers ≤ most_answers widest (length (owners config)) entry.call
few_in_entry config h entry widest l w k known narrow =
    rw (answers_parts config h entry w) (go (reach h entry.place entry.call) refl (own_more (length h) (book_answer config h entry.call) (homed h entry)))
  where
    n : ℕ
    n = length (owners config)

    all : List (ℕ × Answer)
    all = with_own (length h) (book_answer config h entry.call) (homed h entry)

    moves : Site → List (ℕ × Answer)
    moves s = moves_at (length h) entry.moment (request_counts config (entry ∷ h)) entry.call s

    one : (b : Bool) → 1 ≤ (if b then most_of_one most_extensions * n + 1 else most_of_one widest + 1)
    one true = omega arith
    one false = omega arith

    go : (r : Reach) → reach h entry.place entry.call ≡ r → length all ≤ length (homed h entry) + 1 → length all ≤ most_answers widest n entry.call
    go Nowhere q le = omega (arith, le, ap length (homed_nowhere config h entry w q), one (is_stop entry.call))
    go (At e) q le =
        let there = reach_within config h entry.call entry.place e k known w.place q in
        rw (no_stop h entry.place entry.call e q)
        (omega (arith, le, ap length (homed_at config h entry e l w q there.0 there.1), put_all_length (moves (site config h e)) [], few_there config h entry e l w q there.0 there.1, narrow e there))
    go Everywhere q le =
        rw (all_stop h entry.place entry.call q)
        (omega (
          arith,
          le,
          ap length (homed_everywhere config h entry l w k known q),
          merged_few moves (sites config h) [] (few_everywhere config h entry l w q),
          sites_length config h,
        ))

-- expiries are of environments that there are, and each has as many answers as there is room for
record IsPast (config : Config) (es h : List Entry) (widest : ℕ) : Type 0 where
  few : answers_in es ≤ length es * (most_of_one widest + 1)
  known : AllKnown config (es ++ h)
  narrow : IsNarrow config (es ++ h) widest

past_expiries : (config : Config) (es h : List Entry) (widest : ℕ) → AreExpiries es → IsLegal config (es ++ h)
    → AllKnown config h → IsNarrow config h widest → IsPast config es h widest
past_expiries config [] h widest x l k narrow = record { few = omega arith; known = k; narrow = narrow }
past_expiries config (entry ∷ es) h widest x l k narrow = go (past_expiries config es h widest x.1 l.0 k narrow)
  where
    env : ℕ
    env = x.0.0

    timely : IsTimely entry.moment (Expire env) (due config (es ++ h) entry.moment)
    timely = subst (λ (c : Call). IsTimely entry.moment c (due config (es ++ h) entry.moment)) x.0.1 l.1.timely

    there : IsKnown config (Expire env)
    there = due_within config (es ++ h) entry.moment env timely

    known : IsKnown config entry.call
    known = subst (IsKnown config) (sym x.0.1) there

    go : IsPast config es h widest → IsPast config (entry ∷ es) h widest
    go p = record {
      few =
          let one : length entry.answers ≤ most_of_one widest + 1 = subst (λ (c : Call). length entry.answers ≤ most_answers widest (length (owners config)) c) x.0.1 (few_in_entry config (es ++ h) entry widest l.0 l.1 p.known known p.narrow) in omega (arith, one, p.few);
      known = (p.known, known);
      narrow = narrow_on config (es ++ h) entry widest l.0 l.1 (ap registered_name x.0.1) p.narrow;
    }

within_known : (config : Config) (call : Call) → IsWithin config call → IsKnown config call
within_known config (Expire e) w = absurd w
within_known config call w = w

-- The answers that a call leads to.
pub few_given : (config : Config) (h : List Entry) (now : ℕ) (call : Call) (widest : ℕ) → IsLegal config h
    → AllKnown config h → IsWithin config call → IsNarrow config h widest
    → answers_in (added config h now call) ≤ length (due config h (moment_at h now)) * (most_of_one widest + 1) + most_answers widest (length (owners config)) call
unfolding added next
few_given config h now call widest l k within narrow = go (legal_next config h now call l (no_expiry config call within)) (added_length config h now call)
  where
    m : ℕ
    m = moment_at h now

    es : List Entry
    es = expiries config m (due config h m) h

    go : IsLegal config (entry_of config (es ++ h) m call ∷ es ++ h) → suc (length es) ≡ suc (length (due config h m))
        → answers_in (entry_of config (es ++ h) m call ∷ es) ≤ length (due config h m) * (most_of_one widest + 1) + most_answers widest (length (owners config)) call
    go legal as_many =
        let p = past_expiries config es h widest (are_expiries config m (due config h m) h) legal.0 k narrow in
        let same : length es ≡ length (due config h m) = omega (arith, as_many) in
        rw (sym same)
        (omega (arith, p.few, few_in_entry config (es ++ h) (entry_of config (es ++ h) m call) widest legal.0 legal.1 p.known (within_known config call within) p.narrow))
