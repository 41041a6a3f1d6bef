-- What was answered, by ticket, after one more entry.
use Rattle.std.proofs.Common.{◌≡◌, ◌≢◌, ℕ, suc, ◌+◌, ◌<◌, ◌≤◌, Bool, List, [], ◌∷◌, ◌++◌, length, map, set, get_or, All}
use Rattle.std.proofs.Common.{Option, Some, None, sym, refl, ap, ◌∙◌, arith, if◌then◌else◌}
use Rattle.std.proofs.lemmas.List.{length-set}
use Rattle.arn_ids.specs.Environments.{count_from}
use Rattle.call_types.specs.declared.answer.Answer.{Answer}
use Rattle.call_types.specs.declared.call.Entry.{Entry}
use Rattle.call_model.specs.History.{answer_in, answer_of, or_else}
use Rattle.call_model.proofs.Basics.{eqb-self}
use Rattle.call_model.proofs.Pairs.{eqb-other}
use Rattle.environment_step.proofs.Stands.{one_changes}
use Rattle.account_book.specs.Indexes.{answers_by_ticket, noted}
use Rattle.fleet.proofs.Loops.{count_length, count_more}
use Rattle.account_book.proofs.RequestCounts.{numbered_at}
use Rattle.std.proofs.lemmas.List.{length-map}

pub noted_length : (answers : List (ℕ × Answer)) (given : List (Option Answer)) → length (noted answers given) ≡ length given
noted_length [] given = refl
noted_length (a ∷ rest) given = length-set (noted rest given) a.0 (Some a.1) ∙ noted_length rest given

-- the first answer of a ticket stands, else what stood there
noted_is : (answers : List (ℕ × Answer)) (g : ℕ → Option Answer) (m : ℕ) → All (λ a. a.0 < m) answers
    → noted answers (map g (count_from 0 m)) ≡ map (λ t. or_else (answer_in answers t) (g t)) (count_from 0 m)
noted_is [] g m all = refl
noted_is (a ∷ rest) g m all =
    ap (λ xs. set xs a.0 (Some a.1)) (noted_is rest g m (λ i d lt. all (suc i) d (omega (arith, lt))))
    ∙ ap (set (map (λ t. or_else (answer_in rest t) (g t)) (count_from 0 m)) a.0) here
    ∙ sym
    (one_changes (λ t. or_else (answer_in (a ∷ rest) t) (g t)) (λ t. or_else (answer_in rest t) (g t)) 0 m a.0 (λ t ne. ap (λ (b : Bool). or_else (if b then Some a.1 else answer_in rest t) (g t)) (eqb-other a.0 t (other t ne))) (all 0 a (omega arith)))
  where
    zero_plus : 0 + a.0 ≡ a.0
    zero_plus = omega arith

    here : Some a.1 ≡ or_else (answer_in (a ∷ rest) (0 + a.0)) (g (0 + a.0))
    here = rw (zero_plus, eqb-self a.0) refl

    other : (t : ℕ) → t ≢ 0 + a.0 → a.0 ≢ t
    other t ne same = ne (sym same ∙ sym zero_plus)

-- the index after one more entry
pub answered_next : (entry : Entry) (h : List Entry) → answer_of h (length h) ≡ None
    → All (λ a. a.0 ≤ length h) entry.answers
    → noted entry.answers (answers_by_ticket h ++ None ∷ []) ≡ answers_by_ticket (entry ∷ h)
answered_next entry h fresh all =
    ap (noted entry.answers)
    (ap (λ (o : Option Answer). answers_by_ticket h ++ o ∷ []) (sym fresh ∙ ap (answer_of h) (let z : length h ≡ 0 + length h = omega arith in z)) ∙ sym (count_more (answer_of h) 0 (length h) (0 + length h) refl))
    ∙ noted_is entry.answers (answer_of h) (length h + 1) (λ i d lt. omega (arith, all i d lt))
    ∙ ap (λ n. map (answer_of (entry ∷ h)) (count_from 0 n)) (let one : length h + 1 ≡ suc (length h) = omega arith in one)

pub answered_length : (h : List Entry) → length (answers_by_ticket h) ≡ length h
answered_length h = length-map (count_from 0 (length h)) (answer_of h) ∙ count_length 0 (length h)

pub answered_at : (h : List Entry) (t : ℕ) (d : Option Answer) → t < length h → get_or (answers_by_ticket h) t d ≡ answer_of h t
answered_at h t d lt = numbered_at (answer_of h) 0 (length h) t d lt ∙ ap (answer_of h) (let z : 0 + t ≡ t = omega arith in z)

-- what stands at a ticket, and past the end
pub given_some : (given : List (Option Answer)) (h : List Entry) (t : ℕ) (d : Option Answer)
    → given ≡ answers_by_ticket h → t < length given → get_or given t d ≡ answer_of h t
given_some given h t d is lt =
    let long : length given ≡ length h = ap length is ∙ answered_length h in ap (λ (g : List (Option Answer)). get_or g t d) is ∙ answered_at h t d (omega (arith, lt, long))

pub given_none : (given : List (Option Answer)) (h : List Entry) (t : ℕ) → given ≡ answers_by_ticket h
    → length given ≤ t → ((u : ℕ) → length h ≤ u → answer_of h u ≡ None) → answer_of h t ≡ None
given_none given h t is le none = let long : length given ≡ length h = ap length is ∙ answered_length h in none t (omega (arith, le, long))
