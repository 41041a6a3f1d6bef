use Rattle.std.proofs.Common.{◌≡◌, ◌-◌, ◌<◌, true, [], ◌∷◌, length, Some, None, sym, ap, ap₂, ◌∙◌, arith}
use Rattle.json.specs.Token as token
use Rattle.json.specs.Json.{after_end_array, read_key, value, skip_value}
use Rattle.json.specs.Reads.{token_of, skip_items, skip_members}
use Rattle.json.proofs.Grammar.{left, left-parse_map, left_none, value_is, value-begin_array, value-begin_object}
use Rattle.json.proofs.Grammar.{items_end, items_fail, members_end, members_no_key, members_fail, skip_item}
use Rattle.json.proofs.Grammar.{skip_member, read_key_is}
use Rattle.lambda_wire.specs.JsonParts.{all_in_range}
use Rattle.lambda_wire.proofs.json_check.+check.Goals as goal

pub check_items-loop-reader-preserved : goal.check_items-loop-reader-preserved
check_items-loop-reader-preserved t c =
    let p = value c.args.depth in
    let l = c.loop-reader in
    let n = l.invariant.0 in
    let going : (after_end_array l.reader ≡ None) × (c.take_end_array.new.self ≡ l.reader) = grind arith in
    let less : length c.check_value.new.reader < length l.reader = rw (← going.1) c.in_ok-check_value.ensures.shorter in
    (n - 1, omega (arith, l.invariant.1), l.invariant.2 ∙ skip_item p n l.reader _ (omega (arith, l.invariant.1)) going.0 (rw (← going.1) c.in_ok-check_value.ensures.value), omega (arith, l.invariant.3), l.invariant.4 ∙ ap all_in_range (sym going.1) ∙ c.in_ok-check_value.ensures.numbers)

pub check_items-returns-in_err-check_value-clause-value : goal.check_items-returns-in_err-check_value-clause-value
check_items-returns-in_err-check_value-clause-value t c =
    let p = value c.args.depth in
    let l = c.loop-reader in
    let n = l.invariant.0 in
    let going : (after_end_array l.reader ≡ None) × (c.take_end_array.new.self ≡ l.reader) = grind arith in
    let absent : all_in_range l.reader ≡ true → skip_value c.args.depth l.reader ≡ None = rw (← going.1) c.in_err-check_value.ensures.value in
    let none : all_in_range c.args.reader.now ≡ true → skip_items c.args.depth c.args.reader.now ≡ None =
    λ h. l.invariant.2 ∙ ap left (items_fail p n l.reader going.0 (left_none _ (absent (sym l.invariant.4 ∙ h)))) in
    grind (arith, none)

pub check_items-returns-clause-value : goal.check_items-returns-clause-value
check_items-returns-clause-value t c =
    let p = value c.args.depth in
    let l = c.loop-reader in
    let n = l.invariant.0 in
    l.invariant.2 ∙ ap left (items_end p n l.reader c.take_end_array.new.self l.invariant.1 (grind arith))

pub check_members-returns-in_err-next_key-clause-value : goal.check_members-returns-in_err-next_key-clause-value
check_members-returns-in_err-next_key-clause-value t c =
    let p = value c.args.depth in
    let l = c.loop-reader in
    let n = l.invariant.0 in
    let none : all_in_range c.args.reader.now ≡ true → skip_members c.args.depth c.args.reader.now ≡ None =
    λ h. l.invariant.2 ∙ ap left (members_no_key p n l.reader c.in_err-next_key.ensures.value) in
    grind (arith, none)

pub check_members-loop-reader-preserved : goal.check_members-loop-reader-preserved
check_members-loop-reader-preserved t c =
    let p = value c.args.depth in
    let l = c.loop-reader in
    let n = l.invariant.0 in
    let k = c.in-Some.field-0.now in
    let s = c.next_key.new.self in
    let key : read_key l.reader ≡ Some (Some k, s) = grind arith in
    let is = read_key_is l.reader (Some k) s key in
    let less : length s < length l.reader = omega (arith, ap length is) in
    let lesser = c.in_ok-check_value.ensures.shorter in
    (n - 1, omega (arith, l.invariant.1), l.invariant.2 ∙ skip_member p n l.reader s _ k (omega (arith, l.invariant.1)) key c.in_ok-check_value.ensures.value, omega (arith, l.invariant.3), l.invariant.4 ∙ ap all_in_range is ∙ c.in_ok-check_value.ensures.numbers)

pub check_members-returns-in_err-check_value-clause-value : goal.check_members-returns-in_err-check_value-clause-value
check_members-returns-in_err-check_value-clause-value t c =
    let p = value c.args.depth in
    let l = c.loop-reader in
    let n = l.invariant.0 in
    let k = c.in-Some.field-0.now in
    let s = c.next_key.new.self in
    let key : read_key l.reader ≡ Some (Some k, s) = grind arith in
    let same = l.invariant.4 ∙ ap all_in_range (read_key_is l.reader (Some k) s key) in
    let none : all_in_range c.args.reader.now ≡ true → skip_members c.args.depth c.args.reader.now ≡ None =
    λ h. l.invariant.2 ∙ ap left (members_fail p n k l.reader s key (left_none _ (c.in_err-check_value.ensures.value (sym same ∙ h)))) in
    grind (arith, none)

pub check_members-returns-clause-value : goal.check_members-returns-clause-value
check_members-returns-clause-value t c =
    let p = value c.args.depth in
    let l = c.loop-reader in
    let n = l.invariant.0 in
    l.invariant.2 ∙ ap left (members_end p n l.reader c.next_key.new.self l.invariant.1 (grind arith))

pub check_value-returns-in_err-token-clause-value : goal.check_value-returns-in_err-token-clause-value
check_value-returns-in_err-token-clause-value t c =
    let empty : c.args.reader.now ≡ [] = grind arith in
    let none : all_in_range c.args.reader.now ≡ true → skip_value c.args.depth c.args.reader.now ≡ None = λ h. ap (skip_value c.args.depth) empty ∙ ap left (value_is c.args.depth []) in
    grind (arith, none)

pub check_value-returns-in-String-clause-value : goal.check_value-returns-in-String-clause-value
check_value-returns-in-String-clause-value t c =
    let first : c.args.reader.now ≡ token_of c.in_ok-token.token ∷ c.next.new.self = grind arith in
    rw (value_is c.args.depth c.args.reader.now, first) (grind arith)

pub check_value-returns-in-String-2-clause-value : goal.check_value-returns-in-String-2-clause-value
check_value-returns-in-String-2-clause-value t c =
    let first : c.args.reader.now ≡ token_of c.in_ok-token.token ∷ c.next.new.self = grind arith in
    rw (value_is c.args.depth c.args.reader.now, first) (grind arith)

pub check_value-returns-in-EndObject-clause-value : goal.check_value-returns-in-EndObject-clause-value
check_value-returns-in-EndObject-clause-value t c h =
    let first : c.args.reader.now ≡ token_of c.in_ok-token.token ∷ c.next.new.self = grind arith in
    rw (value_is c.args.depth c.args.reader.now, first) (grind arith)

pub check_value-returns-then-depth-eq0-clause-value : goal.check_value-returns-then-depth-eq0-clause-value
unfolding value
check_value-returns-then-depth-eq0-clause-value t c h =
    let first : c.args.reader.now ≡ token_of c.in_ok-token.token ∷ c.next.new.self = grind arith in
    let none : c.args.depth ≡ 0 = omega arith in
    ap₂ skip_value none (first ∙ ap (λ k. token_of k ∷ c.next.new.self) c.in-BeginArray.is)

pub check_value-returns-else-depth-eq0-clause-value : goal.check_value-returns-else-depth-eq0-clause-value
check_value-returns-else-depth-eq0-clause-value t c =
    let first : c.args.reader.now ≡ token_of c.in_ok-token.token ∷ c.next.new.self = grind arith in
    let opened : c.args.reader.now ≡ token.begin_array ∷ c.next.new.self = first ∙ ap (λ k. token_of k ∷ c.next.new.self) c.in-BeginArray.is in
    let same : skip_value c.args.depth c.args.reader.now ≡ skip_items (c.args.depth - 1) c.next.new.self =
    ap (skip_value c.args.depth) opened ∙ ap left (value-begin_array c.args.depth c.next.new.self (omega arith)) ∙ left-parse_map _ _ in
    rw (same, ap all_in_range opened) c.check_items.ensures.value

pub check_value-returns-then-depth-eq0-2-clause-value : goal.check_value-returns-then-depth-eq0-2-clause-value
unfolding value
check_value-returns-then-depth-eq0-2-clause-value t c h =
    let first : c.args.reader.now ≡ token_of c.in_ok-token.token ∷ c.next.new.self = grind arith in
    let none : c.args.depth ≡ 0 = omega arith in
    ap₂ skip_value none (first ∙ ap (λ k. token_of k ∷ c.next.new.self) c.in-BeginObject.is)

pub check_value-returns-else-depth-eq0-2-clause-value : goal.check_value-returns-else-depth-eq0-2-clause-value
check_value-returns-else-depth-eq0-2-clause-value t c =
    let first : c.args.reader.now ≡ token_of c.in_ok-token.token ∷ c.next.new.self = grind arith in
    let opened : c.args.reader.now ≡ token.begin_object ∷ c.next.new.self = first ∙ ap (λ k. token_of k ∷ c.next.new.self) c.in-BeginObject.is in
    let same : skip_value c.args.depth c.args.reader.now ≡ skip_members (c.args.depth - 1) c.next.new.self =
    ap (skip_value c.args.depth) opened ∙ ap left (value-begin_object c.args.depth c.next.new.self (omega arith)) ∙ left-parse_map _ _ in
    rw (same, ap all_in_range opened) c.check_members.ensures.value
