use Rattle.std.proofs.Common.{◌≡◌, ◌<◌, ℕ, List, length, true, false, Bool, nat_lt, codes, refl, ap, arith}
use Rattle.std.proofs.lemmas.Slice.Eq.{bytes_eq-Decides}
use Rattle.std.proofs.lemmas.Bool.Decides.{nat_tests}
use Rattle.lambda_wire.specs.Configuration.{read_setup}
use Rattle.account_book.specs.Run.{line_limit, is_form_2, line_answered, opened}
use Rattle.script_replay.proofs.line.overlong.Goals as goal

past : (line : List ℕ) → line_limit < length line → nat_lt 20000000 (length line) ≡ true
past line h = grind (arith, nat_tests)

-- a line of another length doesn't say form 2
other_line : (line : List ℕ) → line_limit < length line → is_form_2 line ≡ false
other_line line h = go (is_form_2 line) refl
  where
    go : (b : Bool) → is_form_2 line ≡ b → b ≡ false
    go true e = let six : length line ≡ 6 = ap length ((bytes_eq-Decides line (codes "form 2")).0 e) in absurd (omega (arith, six, h))
    go false e = refl

pub returns-in-Taking : goal.returns-in-Taking
unfolding line_answered
returns-in-Taking c = λ line h. rw (c.in-Taking.is, past line h) refl

pub returns-in-AtStart : goal.returns-in-AtStart
unfolding opened read_setup
returns-in-AtStart c = λ line h. rw (c.in-AtStart.is, other_line line h, past line h) refl

pub returns-in-AfterForm : goal.returns-in-AfterForm
unfolding opened read_setup
returns-in-AfterForm c = λ line h. rw (c.in-AfterForm.is, past line h) refl
