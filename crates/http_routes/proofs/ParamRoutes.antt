-- The route of a path whose parameter stands between a front and a back that are written out.
use Rattle.std.proofs.Common.{◌≡◌, ◌≢◌, ℕ, zero, suc, ◌+◌, ◌-◌, ◌<◌, List, [], ◌∷◌, ◌++◌, length, drop, get_or, codes}
use Rattle.std.proofs.Common.{Some, None, true, false, cond, ◌==◌, ltb, refl, ap, arith}
use Rattle.std.proofs.lemmas.Bool.Decides.{nat_tests}
use Rattle.std.proofs.lemmas.List.{length-append}
use Rattle.std.proofs.lemmas.List.Elements.{All-from_get_or}
use Rattle.std.proofs.lemmas.List.{drop_at}
use Rattle.std.specs.Prelude.{⊤, All, IsTrue, not, eqb}
use Rattle.matchit.specs.Rows.{param_token}
use Rattle.matchit.specs.Router.{RouteOf}
use Rattle.matchit.specs.Seek.{step, seek, param_step, has_slash, segment, cuts}
use Rattle.matchit.proofs.OnLiterals.{matchit_on_literals}
use Rattle.http_routes.specs.Routes.{RowsFor, route_in, with_route, with_table}
use Rattle.http_routes.specs.Routes.{runtime_table, extension_table, environment_table, environment_rows}
use Rattle.http_routes.specs.Routes.{lambda_table, stop_table, view_table, clock_table, account_table, account_rows}
use Rattle.http_routes.specs.declared.routes.EnvironmentRoute.TheVariants.{Response}
use Rattle.http_routes.specs.declared.routes.AccountRoute.TheVariants.{Invoke}

-- none of the bytes is a slash
abbrev pub NoSlash : List ℕ → Type 0
NoSlash [] = ⊤
NoSlash (b ∷ xs) = (b ≢ 47) × NoSlash xs

pub no_slash : (xs : List ℕ) → ((i : ℕ) → i < length xs → get_or xs i 0 ≢ 47) → NoSlash xs
no_slash [] h = tt
no_slash (b ∷ xs) h = (h 0 (omega arith), no_slash xs (λ i l. h (suc i) (omega arith)))

segment_is : (xs back : List ℕ) → NoSlash xs → segment (xs ++ (47 ∷ back)) ≡ xs ++ (47 ∷ [])
segment_is [] back h = refl
segment_is (b ∷ xs) back h =
    let differs = h.0 in
    let e : (b == 47) ≡ false = grind (arith, nat_tests) in
    rw e (ap (λ l. b ∷ l) (segment_is xs back h.1))

cuts_slash : (b : ℕ) (xs : List ℕ) → cuts (b ∷ (xs ++ (47 ∷ []))) (47 ∷ []) ≡ true
cuts_slash b xs =
    let long : length (xs ++ (47 ∷ [])) ≡ length xs + 1 = length-append xs (47 ∷ []) in
    let more : ltb 1 (length (b ∷ (xs ++ (47 ∷ [])))) ≡ true = grind (arith, nat_tests) in
    let end : drop (length (b ∷ (xs ++ (47 ∷ []))) - 1) (b ∷ (xs ++ (47 ∷ []))) ≡ 47 ∷ [] = drop_at (b ∷ xs) (47 ∷ []) _ (omega (arith, long)) in
    rw (more, end) refl

module _ {R : Type 0} where
  -- the rows that go on with these bytes, with the bytes gone
  abbrev pub steps : List ℕ → RowsFor R → RowsFor R
  steps [] rs = rs
  steps (b ∷ w) rs = steps w (step b rs)

  -- the walk finds a route of this value
  abbrev pub Finds : ℕ → RowsFor R → List ℕ → R → Type 0
  Finds skip rs path value = (r : RouteOf R) × (seek skip rs path ≡ Some r) × (r.value ≡ value)

  param_step-nothing : (p : List ℕ) → (param_step {K = RouteOf R} [] p).1 ≡ []
  unfolding param_step
  param_step-nothing p =
      elim (has_slash p) as (λ v. (cond {A = ℕ × RowsFor R} v (0, []) (length p, [])).1 ≡ []) [
        | true ↦ refl
        | false ↦ refl
      ]

  seek-nothing : (k : ℕ) (p : List ℕ) → seek {K = RouteOf R} k [] p ≡ None
  unfolding seek
  seek-nothing k [] = refl
  seek-nothing (suc k) (b ∷ p) = seek-nothing k p
  seek-nothing zero (b ∷ p) = simp (seek-nothing 0 p, param_step-nothing (b ∷ p), seek-nothing (((param_step {K = RouteOf R} [] (b ∷ p)).0) - 1) p)

  through : (w : List ℕ) (rs : RowsFor R) (path : List ℕ) (value : R) → Finds 0 (steps w rs) path value → Finds 0 rs (w ++ path) value
  unfolding seek
  through [] rs path value h = h
  through (b ∷ w) rs path value h =
      let deeper = through w (step b rs) path value h in
      (deeper.0, rw deeper.1 refl, deeper.2)

  past : (xs : List ℕ) (rs : RowsFor R) (path : List ℕ) (value : R) → Finds 0 rs path value → Finds (length xs) rs (xs ++ path) value
  unfolding seek
  past [] rs path value h = h
  past (b ∷ xs) rs path value h = past xs rs path value h

  by_param : (rs : RowsFor R) (b skip : ℕ) (path : List ℕ) (rest : RowsFor R) (value : R) → seek 0 (step b rs) path ≡ None
      → (param_step (step param_token rs) (b ∷ path)).0 - 1 ≡ skip → (param_step (step param_token rs) (b ∷ path)).1 ≡ rest
      → Finds skip rest path value → Finds 0 rs (b ∷ path) value
  unfolding seek
  by_param rs b skip path rest value none cut left found = (found.0, rw (none, cut, left, found.1) refl, found.2)

  -- one row behind a parameter
  one : (back : List ℕ) (key : RouteOf R) (b : ℕ) (xs : List ℕ) → b < 256 → NoSlash (b ∷ xs)
      → Finds 0 ((47 ∷ back, key) ∷ []) (47 ∷ back) key.value
      → Finds 0 ((256 ∷ (47 ∷ back), key) ∷ []) (b ∷ (xs ++ (47 ∷ back))) key.value
  unfolding param_step
  one back key b xs small h found =
      let e : (256 == b) ≡ false = grind (arith, nat_tests) in
      let seg = segment_is (b ∷ xs) back h in
      let cut = cuts_slash b xs in
      let long : length (xs ++ (47 ∷ [])) ≡ length xs + 1 = length-append xs (47 ∷ []) in
      by_param _ b (length xs) (xs ++ (47 ∷ back)) ((47 ∷ back, key) ∷ []) key.value
      (rw e (seek-nothing 0 _))
      (rw (seg, cut) (omega (arith, long)))
      (rw (seg, cut) refl)
      (past xs _ _ _ found)

  -- the second of two rows behind a parameter, beside a row that begins with an n
  second : (next error response : RouteOf R) (b : ℕ) (xs : List ℕ) → b < 256 → b ≢ 110 → NoSlash (b ∷ xs)
      → Finds 0 ((codes "next", next) ∷ (256 ∷ codes "/error", error) ∷ (256 ∷ codes "/response", response) ∷ []) (b ∷ (xs ++ codes "/response")) response.value
  unfolding matchit_on_literals
  second next error response b xs small differs h =
      let other : (110 == b) ≡ false = grind (arith, nat_tests) in
      let e : (256 == b) ≡ false = grind (arith, nat_tests) in
      let seg = segment_is (b ∷ xs) (codes "response") h in
      let cut = cuts_slash b xs in
      let long : length (xs ++ (47 ∷ [])) ≡ length xs + 1 = length-append xs (47 ∷ []) in
      by_param ((codes "next", next) ∷ (256 ∷ codes "/error", error) ∷ (256 ∷ codes "/response", response) ∷ []) b
      (length xs) (xs ++ codes "/response")
      ((codes "/error", error) ∷ (codes "/response", response) ∷ []) response.value
      (rw (other, e) (seek-nothing 0 (xs ++ codes "/response")))
      (rw (seg, cut) (omega (arith, long)))
      (rw (seg, cut) refl)
      (past xs _ (codes "/response") response.value (response, refl, refl))

pub invoke_route : (b : ℕ) (xs : List ℕ) → b < 256 → NoSlash (b ∷ xs)
    → route_in account_rows (codes "/2015-03-31/functions/" ++ (b ∷ (xs ++ codes "/invocations"))) ≡ Some Invoke
unfolding matchit_on_literals account_rows account_table lambda_table stop_table view_table clock_table with_table with_route
invoke_route b xs small h =
    let found = through (codes "/2015-03-31/functions/") account_rows (b ∷ (xs ++ codes "/invocations")) Invoke
    (one (codes "invocations") _ b xs small h (_, refl, refl)) in
    rw found.1 (ap Some found.2)

pub response_route : (b : ℕ) (xs : List ℕ) → b < 256 → b ≢ 110 → NoSlash (b ∷ xs)
    → route_in environment_rows (codes "/2018-06-01/runtime/invocation/" ++ (b ∷ (xs ++ codes "/response"))) ≡ Some Response
unfolding matchit_on_literals environment_rows environment_table runtime_table extension_table with_table with_route
response_route b xs small differs h =
    let found = through (codes "/2018-06-01/runtime/invocation/") environment_rows (b ∷ (xs ++ codes "/response")) Response (second _ _ _ b xs small differs h) in
    rw found.1 (ap Some found.2)

pub other_byte : (b : ℕ) → IsTrue (not (eqb b 110)) → b ≢ 110
other_byte b t = λ e. grind (arith, nat_tests)

-- what stands between a front and a slash with a back has no slash
pub no_slashes : (b : ℕ) (xs : List ℕ) → All (λ x. x ≢ 47) (b ∷ xs) → NoSlash (b ∷ xs)
no_slashes b xs all = no_slash (b ∷ xs) (λ i within. all i 0 within)

pub all_but_slashes : (xs : List ℕ) → ((i : ℕ) → i < length xs → get_or xs i 0 ≢ 47) → All (λ x. x ≢ 47) xs
all_but_slashes xs h = All-from_get_or (λ x. x ≢ 47) xs 0 h
