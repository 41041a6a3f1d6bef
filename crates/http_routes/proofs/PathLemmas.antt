-- Options and tests, by cases.
use Rattle.std.proofs.Common.{◌≡◌, ℕ, Bool, true, false, cond, List, Option, Some, None, IsUtf8, refl}
use Rattle.std.specs.Str.{is_utf8}
use Rattle.std.proofs.lemmas.Str.{IsUtf8-from_is_utf8, is_utf8-from_IsUtf8}

pub none_unless : {A : Type 0} (o : Option A) → ((u : A) × (o ≡ Some u) → ⊥) → o ≡ None
none_unless None h = refl
none_unless (Some x) h = absurd (h (x, refl))

pub text_there : (bytes : List ℕ) → IsUtf8 bytes → cond (is_utf8 bytes) (Some bytes) None ≡ Some bytes
text_there bytes h = rw (is_utf8-from_IsUtf8 bytes h) refl

no_text_by : (bytes : List ℕ) (b : Bool) → is_utf8 bytes ≡ b → (IsUtf8 bytes → ⊥) → cond b (Some bytes) None ≡ None
no_text_by bytes true e h = absurd (h (IsUtf8-from_is_utf8 bytes e))
no_text_by bytes false e h = refl

pub no_text : (bytes : List ℕ) → (IsUtf8 bytes → ⊥) → cond (is_utf8 bytes) (Some bytes) None ≡ None
no_text bytes h = no_text_by bytes (is_utf8 bytes) refl h
