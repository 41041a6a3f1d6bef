-- A trail, as the history that it has seen grows.
use Rattle.std.proofs.Common.{◌≡◌, ℕ, ◌+◌, ◌-◌, ◌≤◌, Bool, Option, Some, List, [], ◌∷◌, ◌++◌, length, drop, refl, sym, ap, subst, ◌∙◌, arith}
use Rattle.std.proofs.Math.Seq.{drop-append-add}
use Rattle.std.proofs.lemmas.List.{length-append}
use Rattle.arn_ids.specs.declared.config.Config.{Config}
use Rattle.call_types.specs.declared.call.Entry.{Entry}
use Rattle.shared_history.specs.Sharing.{Extends}
use Rattle.json.specs.Print.{print}
use Rattle.json.specs.Token.{Token}
use Rattle.fleet.specs.Reaches.{before}
use Rattle.trace.specs.Object.{object_text}
use Rattle.trace.specs.Sites.{sites}
use Rattle.trace.specs.declared.follower.followed.Followed.{Followed}
use Rattle.account_lock.specs.Trails.{IsLineOf, IsObjectOf}

all_dropped : (h : List Entry) → drop (length h) h ≡ []
all_dropped [] = refl
all_dropped (entry ∷ h) = all_dropped h

-- nothing comes before the first entry
pub none_before : (h : List Entry) → before h 0 ≡ []
none_before h = let whole : length h - 0 ≡ length h = omega arith in ap (λ (n : ℕ). drop n h) whole ∙ all_dropped h

-- what comes before an entry stays as the history grows
before_longer : (h k : List Entry) (n : ℕ) → Extends h k → n ≤ length h → before k n ≡ before h n
before_longer h k n longer within =
    let newer : List Entry = longer.0 in
    let far : length (newer ++ h) - n ≡ length newer + (length h - n) = omega (arith, length-append newer h, within) in
    ap (λ (l : List Entry). before l n) longer.1 ∙ ap (λ (m : ℕ). drop m (newer ++ h)) far ∙ drop-append-add newer h (length h - n)

-- so the environments stay
pub still : (config : Config) (h k : List Entry) (n : ℕ) (follower : List Followed) → Extends h k
    → (follower ≡ sites config (before h n)) × (n ≤ length h) → (follower ≡ sites config (before k n)) × (n ≤ length k)
still config h k n follower longer at =
    let grown : length k ≡ length longer.0 + length h = ap length longer.1 ∙ length-append longer.0 h in
    (at.0 ∙ ap (sites config) (sym (before_longer h k n longer at.1)), omega (arith, grown, at.1))

-- the line of an entry is its object, written, and a line feed
pub written : (config : Config) (salt : ℕ) (bodies : Bool) (ticket : ℕ) (object : Option (List Token)) (tokens : List Token) (line : List ℕ) (h : List Entry)
    → object ≡ Some tokens → line ≡ print tokens ++ 10 ∷ [] → IsObjectOf config salt bodies ticket object h → IsLineOf config salt bodies ticket (Some line) h
unfolding object_text
written config salt bodies ticket object tokens line h is said told =
    let at : IsObjectOf config salt bodies ticket (Some tokens) h = subst (λ (o : Option (List Token)). IsObjectOf config salt bodies ticket o h) is told in
    (at.0, λ d. said ∙ ap (λ (ts : List Token). print ts ++ 10 ∷ []) (at.1 d))
