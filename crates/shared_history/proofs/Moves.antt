-- Each step keeps the rule.
use Rattle.std.proofs.Common.{◌≡◌, ◌≢◌, ◌⊎◌, ℕ, zero, suc, List, [], ◌∷◌, ◌++◌, set, true, false, true≢false, refl, sym}
use Rattle.std.proofs.Common.{ap, ◌∙◌, subst, inl, inr, ⊎_elim, append_assoc}
use mathlib.Core.Option.{some, some-ne-none, some-injective}
use lib.ListN.{get_elem?}
use Rattle.atomic_table.specs.Table.{State, Me, Allows, Splits, Joins, keeps}
use Rattle.atomic_table.proofs.Lists.{at_set, at_snoc, set_again}
use Rattle.std.proofs.lemmas.List.{append-nil}
use Rattle.shared_history.specs.declared.view.View.{View}
use Rattle.shared_history.specs.Sharing.{Extends, pen_view, token_view, heard, told, Fits, Shared, Wrote, Compared, Agreed}

off : false ≡ true → ⊥
off e = true≢false (sym e)

-- what a seat knows, and the slots that it holds, of which there are none
abbrev pub Known : Type 0 → Type 0
Known A = Me (Unit {0}) (View A)

module _ {A : Type 0} where
  -- a history goes on where it ends itself
  pub extends_self : (h : List A) → Extends h h
  extends_self h = ([], refl)

  pub extends_none : (h : List A) → Extends [] h
  extends_none h = (h, sym (append-nil h))

  extends_more : (more b h : List A) → Extends b h → Extends b (more ++ h)
  extends_more more b h p = (more ++ p.0, ap (λ x. more ++ x) p.1 ∙ sym (append_assoc more p.0 b))

  under : (x : A) (xs ys : List A) → Extends ys xs → Extends ys (x ∷ xs)
  under x xs ys p = (x ∷ p.0, ap (λ z. x ∷ z) p.1)

  -- of two beginnings of one history one is a beginning of the other
  pub comparable : (b c h : List A) → Extends b h → Extends c h → Extends b c ⊎ Extends c b
  comparable b c h p q = by p.0 q.0 (sym p.1 ∙ q.1)
    where
      by : (m n : List A) → m ++ b ≡ n ++ c → Extends b c ⊎ Extends c b
      by [] n e = inr (n, e)
      by (x ∷ m) [] e = inl (x ∷ m, sym e)
      by (x ∷ m) (y ∷ n) e = by m n (cc e)

  -- the rule, which is about what tokens know alone
  abbrev pub all_holds : State (Unit {0}) (View A) → Type 0
  all_holds s = Shared s.views

  fits_set : (place : ℕ) (now : List A) (views : List (View A)) (by : ℕ) (w : View A)
      → ((j : ℕ) (u : View A) → j ≢ by → get_elem? views j ≡ some u → Fits place now j u) → Fits place now by w
      → (j : ℕ) (u : View A) → get_elem? (set views by w) j ≡ some u → Fits place now j u
  fits_set place now views by w others mine j u e =
      ⊎_elim
      (λ (x : (j ≡ by) × (w ≡ u)). subst (λ (y : ℕ × View A). Fits place now y.0 y.1) (λ i. (sym x.0 i, x.1 i)) mine)
      (λ (x : (j ≢ by) × (get_elem? views j ≡ some u)). others j u x.0 x.1)
      (at_set views by j w u e)

  -- a token that isn't the pen
  fits_token : (place number : ℕ) (history b : List A) → Extends b history → Fits place history number (token_view b)
  fits_token place number history b p = record { knows = λ k. absurd (off k); begins = extends_none history; saw = p }

  fits_pen : (place number : ℕ) (history : List A) → number ≡ place → Fits place history number (pen_view history)
  fits_pen place number history same = record { knows = λ k. (same, refl); begins = extends_self history; saw = extends_none history }

  pub begins : Shared (pen_view {A = A} [] ∷ [])
  begins = (0, [], one)
    where
      one : (number : ℕ) (v : View A) → get_elem? (pen_view [] ∷ []) number ≡ some v → Fits 0 [] number v
      one zero v e = subst (Fits 0 [] 0) (some-injective _ _ e) (fits_pen 0 0 [] refl)
      one (suc n) v e = absurd (some-ne-none v (sym e))

  pub writes : (history all : List A) → Extends all history → (slots id word : ℕ)
      → Allows all_holds slots id (pen_view all, []) word (λ n. n) (λ n. Wrote history (pen_view all, []))
  writes history all more slots id word s h n at lt =
      let mine = (h.2 id (pen_view all) at).knows refl in
      let now : history ≡ more.0 ++ h.1 = more.1 ∙ ap (λ l. more.0 ++ l) mine.1 in (
        pen_view history,
        keeps,
        tt,
        (
          h.0,
          history,
          fits_set h.0 history s.views id (pen_view history)
              (λ j u apart e. let was = h.2 j u e in record {
                knows = λ k. absurd (apart ((was.knows k).0 ∙ sym mine.0));
                begins = subst (λ l. Extends u.all l) (sym now) (extends_more more.0 u.all h.1 was.begins);
                saw = subst (λ l. Extends u.seen l) (sym now) (extends_more more.0 u.seen h.1 was.saw);
              })
              (fits_pen h.0 id history mine.0),
        ),
        refl,
      )

  pub compares : (all b : List A) (slots id word : ℕ)
      → Allows all_holds slots id (heard (pen_view all) (token_view b), []) word (λ n. n) (λ n. Compared (heard (pen_view all) (token_view b), []))
  compares all b slots id word s h n at lt =
      let was = h.2 id (heard (pen_view all) (token_view b)) at in
      let mine = was.knows refl in (
        pen_view all,
        keeps,
        tt,
        (
          h.0,
          h.1,
          fits_set h.0 h.1 s.views id (pen_view all) (λ j u apart e. h.2 j u e)
              (subst (λ l. Fits h.0 l id (pen_view all)) mine.1 (fits_pen h.0 id all mine.0)),
        ),
        (refl, subst (λ l. Extends b l) (sym mine.1) was.saw),
      )

  pub agrees : (b c : List A) (slots id word : ℕ)
      → Allows all_holds slots id (told (token_view b) (token_view c), []) word (λ n. n) (λ n. Agreed (told (token_view b) (token_view c), []))
  agrees b c slots id word s h n at lt =
      let was = h.2 id (told (token_view b) (token_view c)) at in (
        token_view b,
        keeps,
        tt,
        (h.0, h.1, fits_set h.0 h.1 s.views id (token_view b) (λ j u apart e. h.2 j u e) (fits_token h.0 id h.1 b was.saw)),
        (refl, comparable b c h.1 was.saw was.begins),
      )

  -- a new token has seen a beginning
  splits_to : (id : ℕ) (v : View A) (b : List A) → ((place number : ℕ) (history : List A) → Fits place history number v → Extends b history)
      → Splits all_holds id v v (token_view b)
  splits_to id v b sees s h at = (
    h.0,
    h.1,
    λ j u e. ⊎_elim
        (λ was. h.2 j u (subst (λ l. get_elem? l j ≡ some u) (set_again s.views id v at) was))
        (λ (same : token_view b ≡ u). subst (Fits h.0 h.1 j) same (fits_token h.0 j h.1 b (sees h.0 id h.1 (h.2 id v at))))
        (at_snoc (set s.views id v) (token_view b) u j e),
  )

  pub lets : (id : ℕ) (v : View A) → Splits all_holds id v v (token_view v.all)
  lets id v = splits_to id v v.all (λ place number history f. f.begins)

  pub copies : (id : ℕ) (v : View A) → Splits all_holds id v v (token_view v.seen)
  copies id v = splits_to id v v.seen (λ place number history f. f.saw)

  -- a token takes in what another one has seen, which is spent
  joins_to : (id other : ℕ) (v w both : View A)
      → ((place : ℕ) (history : List A) → Fits place history id v → Fits place history other w → Fits place history id both)
      → Joins all_holds id v other w both (token_view [])
  joins_to id other v w both fits s h at apart there =
      let theirs = ⊎_elim (λ (t : (other ≡ id) × (both ≡ w)). absurd (apart t.0)) (λ (t : (other ≢ id) × (get_elem? s.views other ≡ some w)). h.2 other w t.1) (at_set s.views id other both w there) in
      let mine = fits h.0 h.1 (h.2 id v at) theirs in (
        h.0,
        h.1,
        fits_set h.0 h.1 (set s.views id both) other (token_view [])
            (λ j u _ e. fits_set h.0 h.1 s.views id both (λ i y _ was. h.2 i y was) mine j u e)
            (fits_token h.0 other h.1 [] (extends_none h.1)),
      )

  pub hears : (id other : ℕ) (v w : View A) → Joins all_holds id v other w (heard v w) (token_view [])
  hears id other v w = joins_to id other v w (heard v w) (λ place history f g. record { knows = f.knows; begins = f.begins; saw = g.saw })

  pub is_told : (id other : ℕ) (v w : View A) → Joins all_holds id v other w (told v w) (token_view [])
  is_told id other v w = joins_to id other v w (told v w) (λ place history f g. record { knows = λ k. absurd (off k); begins = g.saw; saw = f.saw })

  -- the moves, of a token that knows this
  pub writes_as : (history all : List A) → Extends all history → (slots id word : ℕ) (me : Known A) → me ≡ (pen_view all, [])
      → Allows all_holds slots id me word (λ n. n) (λ n. Wrote history me)
  writes_as history all more slots id word me is =
      subst (λ (m : Known A). Allows all_holds slots id m word (λ n. n) (λ n. Wrote history m)) (sym is) (writes history all more slots id word)

  pub compares_as : (all b : List A) (slots id word : ℕ) (me : Known A) → me ≡ (heard (pen_view all) (token_view b), [])
      → Allows all_holds slots id me word (λ n. n) (λ n. Compared me)
  compares_as all b slots id word me is =
      subst (λ (m : Known A). Allows all_holds slots id m word (λ n. n) (λ n. Compared m)) (sym is) (compares all b slots id word)

  pub agrees_as : (b d : List A) (slots id word : ℕ) (me : Known A) → me ≡ (told (token_view b) (token_view d), [])
      → Allows all_holds slots id me word (λ n. n) (λ n. Agreed me)
  agrees_as b d slots id word me is =
      subst (λ (m : Known A). Allows all_holds slots id m word (λ n. n) (λ n. Agreed m)) (sym is) (agrees b d slots id word)
