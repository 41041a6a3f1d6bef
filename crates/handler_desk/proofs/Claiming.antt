-- Each step of a claim keeps the rule.
use Rattle.std.proofs.Common.{◌≡◌, ◌≢◌, ◌⊎◌, ℕ, zero, suc, ◌+◌, ◌≤◌, ◌==◌, List, [], ◌∷◌, ◌++◌, take, drop, set, get_or, refl, sym, ap, ◌∙◌, subst}
use Rattle.std.proofs.Common.{inl, inr, ⊎_elim, arith, if◌then◌else◌, eq-eqb, ne_eqb}
use mathlib.Core.Logic.{dite}
use mathlib.Core.Option.{some, some-ne-none, some-injective}
use native.Mathlib.Decide.{ℕ_discrete}
use prog.Atomic.{either}
use lib.ListN.{get_elem?}
use Rattle.atomic_table.specs.Table.{State, Me, Allows, Splits, Joins, Enters, keeps}
use Rattle.atomic_table.proofs.Lists.{exchanged}
use Rattle.handler_desk.specs.declared.claims.Held.{Held}
use Rattle.handler_desk.specs.Claims.{held, once, times, times_held, AreOnceEach, Drew, Looked}

abbrev pub all_holds : State (Unit {0}) Held → Type 0
all_holds s = AreOnceEach s.words s.views

-- one identifier is another, or not
once_cases : (id other : ℕ) → ((id ≡ other) × (once id other ≡ 1)) ⊎ ((id ≢ other) × (once id other ≡ 0))
once_cases id other = dite (ℕ_discrete id other)
    (λ e. inl (e, ap (λ b. if b then 1 else 0) (eq-eqb id other e)))
    (λ n. inr (n, ap (λ b. if b then 1 else 0) (ne_eqb id other n)))

once_same : (id : ℕ) → once id id ≡ 1
once_same id = ⊎_elim (λ h. h.1) (λ h. absurd (h.0 refl)) (once_cases id id)

times_append : (x : ℕ) (ids others : List ℕ) → times x (ids ++ others) ≡ times x ids + times x others
times_append x [] others = omega arith
times_append x (id ∷ ids) others = omega (arith, times_append x ids others)

times_cut : (x : ℕ) (ids : List ℕ) → times x (take 1 ids) + times x (drop 1 ids) ≡ times x ids
times_cut x [] = refl
times_cut x (id ∷ ids) = omega arith

-- the claims after one of them has changed
held_set : (x : ℕ) (claims : List Held) (i : ℕ) (v w : Held) → get_elem? claims i ≡ some v
    → times_held x (set claims i w) + times x v.ids ≡ times_held x claims + times x w.ids
held_set x [] i v w e = absurd (some-ne-none v (sym e))
held_set x (c ∷ cs) zero v w e =
    let same = ap (λ (c : Held). times x c.ids) (some-injective c v e) in omega (arith, same)
held_set x (c ∷ cs) (suc i) v w e = omega (arith, held_set x cs i v w e)

held_snoc : (x : ℕ) (claims : List Held) (w : Held)
    → times_held x (claims ++ w ∷ []) ≡ times_held x claims + times x w.ids
held_snoc x [] w = omega arith
held_snoc x (c ∷ cs) w = omega (arith, held_snoc x cs w)

held_at : (x : ℕ) (claims : List Held) (i : ℕ) (v : Held) → get_elem? claims i ≡ some v
    → times x v.ids ≤ times_held x claims
held_at x [] i v e = absurd (some-ne-none v (sym e))
held_at x (c ∷ cs) zero v e = let same = ap (λ (c : Held). times x c.ids) (some-injective c v e) in omega (arith, same)
held_at x (c ∷ cs) (suc i) v e = omega (arith, held_at x cs i v e)

-- the rule of one identifier, and that no more of it is held keeps it
abbrev pub Once : ℕ → ℕ → ℕ → Type 0
Once next id n = (n ≤ 1) × (next ≤ id → n ≡ 0)

kept : (next id n m : ℕ) → Once next id n → m ≤ n → Once next id m
kept next id n m h le = (let a = h.0 in omega arith, λ late. let b = h.1 late in omega arith)

pub begins : AreOnceEach (0 ∷ []) (held [] ∷ [])
begins = (0, refl, λ id. (omega arith, λ late. refl))

abbrev pub Known : Type 0
Known = Me (Unit {0}) Held

pub enters : (slots : ℕ) → Enters all_holds slots 0 (λ n w. ◌≡◌ {A = Known} (w, []) (held [], []))
enters slots s h n lt = (
  held [],
  (h.0, h.1, λ id. kept h.0 id _ _ (h.2 id) (let e = held_snoc id s.views (held []) in omega arith)),
  refl,
)

-- what the identifier that comes next adds
drawn : (next id n : ℕ) → Once next id n → Once (next + 1) id (n + once id next)
drawn next id n h = ⊎_elim
    (λ (same : (id ≡ next) × (once id next ≡ 1)).
    let none : n ≡ 0 = h.1 (let e = same.0 in omega arith) in
    (let one = same.1 in omega arith, λ late. absurd (let e = same.0 in omega arith)))
    (λ (other : (id ≢ next) × (once id next ≡ 0)). (
      (let zero = other.1 in let most = h.0 in omega arith),
      λ late. let zero = other.1 in let none : n ≡ 0 = h.1 (omega arith) in omega arith,
    ))
    (once_cases id next)

-- the claim of a seat that held nothing becomes another, and the word another
stepped_to : (slots seat : ℕ) (s : State (Unit {0}) Held) (f : ℕ → ℕ) (v w : Held)
    → (h : all_holds s) → get_elem? s.views seat ≡ some v
    → ((id : ℕ) → Once (f h.0) id (times_held id (set s.views seat w)))
    → AreOnceEach (set s.words 0 (f (get_or s.words 0 0))) (set s.views seat w)
stepped_to slots seat s f v w h at each = (f h.0, ap (λ l. set l 0 (f (get_or l 0 0))) h.1, each)

taken_by : (id next first : ℕ) (claims : List Held) (seat : ℕ) → Once next id (times_held id claims)
    → get_elem? claims seat ≡ some (held []) → next ≡ first
    → Once (first + 1) id (times_held id (set claims seat (held (first ∷ []))))
taken_by id next first claims seat h at same =
    let e = held_set id claims seat (held []) (held (first ∷ [])) at in
    let all : times_held id claims + once id first ≡ times_held id (set claims seat (held (first ∷ []))) =
    omega arith in
    subst (λ n. Once (first + 1) id n) all
    (drawn first id (times_held id claims) (subst (λ n. Once n id (times_held id claims)) same h))

-- it finds the identifier that comes next, and takes it, or another one, and changes nothing
pub draws : (slots seat first : ℕ)
    → Allows all_holds slots seat (held [], []) 0 (λ n. either (n == first) (first + 1) n)
    (λ n. Drew first (held [], []) n)
draws slots seat first s h n at lt =
    let found : get_or s.words 0 0 ≡ h.0 = ap (λ l. get_or l 0 0) h.1 in
    dite (ℕ_discrete h.0 first)
    (λ e. (
      held (first ∷ []),
      keeps,
      tt,
      stepped_to slots seat s (λ n. either (n == first) (first + 1) n) (held []) (held (first ∷ [])) h at
          (λ id. exchanged h.0 first (first + 1)
          (λ next. Once next id (times_held id (set s.views seat (held (first ∷ [])))))
          (λ same. taken_by id h.0 first s.views seat (h.2 id) at same)
          (λ other. absurd (other e))),
      ((λ same. refl), (λ other. absurd (other (found ∙ e)))),
    ))
    (λ ne. (
      held [],
      keeps,
      tt,
      stepped_to slots seat s (λ n. either (n == first) (first + 1) n) (held []) (held []) h at
          (λ id. exchanged h.0 first (first + 1) (λ next. Once next id (times_held id (set s.views seat (held []))))
          (λ same. absurd (ne same))
          (λ other. kept h.0 id _ _ (h.2 id) (let e = held_set id s.views seat (held []) (held []) at in omega arith))),
      ((λ same. absurd (ne (sym found ∙ same))), (λ other. refl)),
    ))

pub looks : (slots seat : ℕ) (claim : Held)
    → Allows all_holds slots seat (claim, []) 0 (λ n. n) (λ n. Looked (claim, []))
looks slots seat claim s h n at lt = (
  claim,
  keeps,
  tt,
  stepped_to slots seat s (λ n. n) claim claim h at
      (λ id. kept h.0 id _ _ (h.2 id) (let e = held_set id s.views seat claim claim at in omega arith)),
  (refl, λ id. let most = (h.2 id).0 in let here = held_at id s.views seat claim at in omega arith),
)

splits : (seat : ℕ) (v left right : Held) → ((id : ℕ) → times id left.ids + times id right.ids ≡ times id v.ids)
    → Splits all_holds seat v left right
splits seat v left right same s h at = (
  h.0,
  h.1,
  λ id. kept h.0 id _ _ (h.2 id)
      (let a = held_set id s.views seat v left at in
      let b = held_snoc id (set s.views seat left) right in
      let c = same id in omega arith),
)

pub all : (seat : ℕ) (v : Held) → Splits all_holds seat v (held []) v
all seat v = splits seat v (held []) v (λ id. omega arith)

pub others : (seat : ℕ) (v : Held) → Splits all_holds seat v (held (take 1 v.ids)) (held (drop 1 v.ids))
others seat v = splits seat v (held (take 1 v.ids)) (held (drop 1 v.ids)) (λ id. times_cut id v.ids)

pub together : (seat other : ℕ) (v w : Held) → Joins all_holds seat v other w (held (v.ids ++ w.ids)) (held [])
together seat other v w s h at apart there = (
  h.0,
  h.1,
  λ id. kept h.0 id _ _ (h.2 id)
      (let a = held_set id s.views seat v (held (v.ids ++ w.ids)) at in
      let b = held_set id (set s.views seat (held (v.ids ++ w.ids))) other w (held []) there in
      let c = times_append id v.ids w.ids in omega arith),
)

-- the steps, of a claim that knows this
pub draws_as : (slots seat first next : ℕ) (me : Known) → me ≡ (held [], []) → next ≡ first + 1
    → Allows all_holds slots seat me 0 (λ n. either (n == first) next n) (λ n. Drew first me n)
draws_as slots seat first next me is more =
    subst (λ (m : Known). Allows all_holds slots seat m 0 (λ n. either (n == first) next n) (λ n. Drew first m n))
    (sym is)
    (subst
    (λ (k : ℕ). Allows all_holds slots seat (held [], []) 0 (λ n. either (n == first) k n)
    (λ n. Drew first (held [], []) n))
    (sym more)
    (draws slots seat first))

pub looks_as : (slots seat : ℕ) (me : Known) → me.1 ≡ [] → Allows all_holds slots seat me 0 (λ n. n) (λ n. Looked me)
looks_as slots seat me none =
    subst (λ l. Allows all_holds slots seat (me.0, l) 0 (λ n. n) (λ n. Looked (me.0, l))) (sym none)
    (looks slots seat me.0)

-- two identifiers of which neither is held twice differ
pub apart : (a b : ℕ) (ids : List ℕ) → ids ≡ a ∷ b ∷ [] → ((id : ℕ) → times id ids ≤ 1) → a ≡ b → ⊥
apart a b ids are most same =
    let both : times a (a ∷ b ∷ []) ≤ 1 = subst (λ l. times a l ≤ 1) are (most a) in
    let here = once_same a in
    let there : once a b ≡ 1 = subst (λ c. once a c ≡ 1) same (once_same a) in
    absurd (omega arith)
