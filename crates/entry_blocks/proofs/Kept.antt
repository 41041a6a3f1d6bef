-- What appending an item, or beginning a block, keeps.
use Rattle.std.proofs.Common.{◌≡◌, sym, ◌∙◌, ap, ap₂, arith, subst, ℕ, suc, ◌+◌, ◌*◌, ◌<◌, ◌≤◌, ◌-◌, ◌/◌, ◌%◌, List, []}
use Rattle.std.proofs.Common.{◌∷◌, ◌++◌, length, map, take, drop, set, get_or, All, vec_items, vec_capacity}
use Rattle.std.specs.List.{flat_map}
use Rattle.std.specs.declared.vec.Vec.{Vec}
use Rattle.std.proofs.lemmas.List.{get_or-map, get_or_default, get_or-take, get_or-drop, length-drop, length-set, length-take, length_push, map-set, map_push}
use Rattle.std.proofs.lemmas.List.Elements.{All-set, All-push, All-get_or}
use Rattle.std.proofs.lemmas.List.Folds.{flat_map-map}
use Rattle.entry_blocks.specs.Rows.{block_length, cut, joined, AreBlocks, IsRow}
use Rattle.entry_blocks.proofs.Cuts.{get_or-cut, set-cut, set-in_cut, cut_more, joined_cut}

-- what a block holds
pub block_holds : {X Z : Type 0} (blocks : List (Vec X Z)) (q : ℕ) (d : Vec X Z) → AreBlocks blocks → q < length blocks
    → vec_items (get_or blocks q d) ≡ take block_length (drop (block_length * q) (joined blocks))
block_holds blocks q d are lt =
    sym (get_or-map vec_items blocks q d [] lt)
    ∙ ap (λ a. get_or a q []) are.cut_is
    ∙ get_or-cut block_length (length blocks) q (joined blocks) [] lt

-- blocks that are a list cut hold that list
pub joined_is : {X Z : Type 0} (blocks : List (Vec X Z)) (xs : List X)
    → map vec_items blocks ≡ cut block_length (length blocks) xs → length xs ≤ block_length * length blocks
    → joined blocks ≡ xs
joined_is {X} blocks xs is few =
    sym (flat_map-map (λ (a : List X). a) vec_items blocks)
    ∙ ap (flat_map (λ (a : List X). a)) is
    ∙ joined_cut block_length (length blocks) xs few

-- blocks that are a list cut, each reserved whole
pub blocks_of : {X Z : Type 0} (blocks : List (Vec X Z)) (xs : List X)
    → map vec_items blocks ≡ cut block_length (length blocks) xs → length xs ≤ block_length * length blocks
    → All (λ block. block_length ≤ vec_capacity block) blocks → AreBlocks blocks × (joined blocks ≡ xs)
blocks_of blocks xs is few whole =
    let all : joined blocks ≡ xs = joined_is blocks xs is few in
    (record { cut_is = is ∙ ap (cut block_length (length blocks)) (sym all); within = rw all few; whole = whole }, all)

-- an item at the end of the block where it goes is an item at the end of all
pub appended : {X Z : Type 0} (blocks : List (Vec X Z)) (q : ℕ) (block : Vec X Z) (x : X) → AreBlocks blocks
    → length (joined blocks) < block_length * length blocks → block_length * q ≤ length (joined blocks)
    → length (joined blocks) < block_length * q + block_length
    → vec_items block ≡ take block_length (drop (block_length * q) (joined blocks)) ++ x ∷ []
    → block_length ≤ vec_capacity block
    → AreBlocks (set blocks q block) × (joined (set blocks q block) ≡ joined blocks ++ x ∷ [])
appended blocks q block x are room from to items whole =
    let as_many : length (set blocks q block) ≡ length blocks = length-set blocks q block in
    blocks_of (set blocks q block) (joined blocks ++ x ∷ [])
    (map-set vec_items blocks q block
    ∙ ap₂ (λ a b. set a q b) are.cut_is items
    ∙ set-cut block_length (length blocks) q (joined blocks) x room from to
    ∙ ap (λ n. cut block_length n (joined blocks ++ x ∷ [])) (sym as_many))
    (omega (arith, as_many, length_push (joined blocks) x))
    (All-set (λ b. block_length ≤ vec_capacity b) blocks q block whole are.whole)

-- an item in the place of another in its block is so in all
pub replaced : {X Z : Type 0} (blocks : List (Vec X Z)) (i : ℕ) (block new : Vec X Z) (x : X) → AreBlocks blocks
    → i < length (joined blocks) → block ≡ get_or blocks (i / block_length) block
    → vec_items new ≡ set (vec_items block) (i % block_length) x → vec_capacity block ≡ vec_capacity new
    → AreBlocks (set blocks (i / block_length) new) × (joined (set blocks (i / block_length) new) ≡ set (joined blocks) i x)
replaced {X} blocks i block new x are lt is items kept =
    let there : i / block_length < length blocks = omega (arith, are.within) in
    let inside : i % block_length < block_length = omega arith in
    let place : block_length * (i / block_length) + i % block_length ≡ i = omega arith in
    let as_many : length (set blocks (i / block_length) new) ≡ length blocks = length-set blocks (i / block_length) new in
    let holds : vec_items block ≡ take block_length (drop (block_length * (i / block_length)) (joined blocks)) = ap vec_items is ∙ block_holds blocks (i / block_length) block are there in
    let whole : block_length ≤ vec_capacity block = subst (λ b. block_length ≤ vec_capacity b) (sym is) (All-get_or (λ b. block_length ≤ vec_capacity b) blocks (i / block_length) block there are.whole) in
    blocks_of (set blocks (i / block_length) new) (set (joined blocks) i x)
    (map-set vec_items blocks (i / block_length) new
    ∙ ap₂ (λ a b. set a (i / block_length) b) are.cut_is (items ∙ ap (λ (a : List X). set a (i % block_length) x) holds)
    ∙ set-in_cut block_length (length blocks) (i / block_length) (i % block_length) (joined blocks) x there inside
    ∙ ap₂ (λ n j. cut block_length n (set (joined blocks) j x)) (sym as_many) place)
    (omega (arith, as_many, length-set (joined blocks) i x, are.within))
    (All-set (λ b. block_length ≤ vec_capacity b) blocks (i / block_length) new (omega (arith, whole, kept)) are.whole)

-- an empty block at the end holds nothing
pub begun : {X Z : Type 0} (blocks : List (Vec X Z)) (block : Vec X Z) → AreBlocks blocks → vec_items block ≡ []
    → block_length ≤ vec_capacity block
    → AreBlocks (blocks ++ block ∷ []) × (joined (blocks ++ block ∷ []) ≡ joined blocks)
begun blocks block are empty whole =
    let longer : length (blocks ++ block ∷ []) ≡ suc (length blocks) = omega (arith, length_push blocks block) in
    blocks_of (blocks ++ block ∷ []) (joined blocks)
    (map_push vec_items blocks block
    ∙ ap₂ (λ a b. a ++ b ∷ []) are.cut_is empty
    ∙ cut_more block_length (length blocks) (joined blocks) are.within
    ∙ ap (λ n. cut block_length n (joined blocks)) (sym longer))
    (omega (arith, longer, are.within))
    (All-push (λ b. block_length ≤ vec_capacity b) blocks block are.whole whole)

-- the block of an item that is there holds its place
pub place_within : {X Z : Type 0} (blocks : List (Vec X Z)) (i : ℕ) (block : Vec X Z) → AreBlocks blocks
    → i < length (joined blocks) → block ≡ get_or blocks (i / block_length) block
    → i % block_length < length (vec_items block)
place_within blocks i block are lt is =
    let begun : i / block_length < length blocks = omega (arith, are.within) in
    let holds : length (vec_items block) ≡ length (take block_length (drop (block_length * (i / block_length)) (joined blocks))) = ap length (ap vec_items is ∙ block_holds blocks (i / block_length) block are begun) in
    omega
    (arith, holds, length-take block_length (drop (block_length * (i / block_length)) (joined blocks)), length-drop (block_length * (i / block_length)) (joined blocks))

-- in that place stands the item
pub item_at : {X Z : Type 0} (blocks : List (Vec X Z)) (i : ℕ) (block : Vec X Z) (x : X) → AreBlocks blocks
    → i < length (joined blocks) → block ≡ get_or blocks (i / block_length) block
    → x ≡ get_or (vec_items block) (i % block_length) x → (d : X) → x ≡ get_or (joined blocks) i d
item_at blocks i block x are lt is item d =
    let begun : i / block_length < length blocks = omega (arith, are.within) in
    let inside : i % block_length < block_length = omega arith in
    let place : block_length * (i / block_length) + i % block_length ≡ i = omega arith in
    item
    ∙ ap (λ a. get_or a (i % block_length) x) (ap vec_items is ∙ block_holds blocks (i / block_length) block are begun)
    ∙ get_or-take block_length (drop (block_length * (i / block_length)) (joined blocks)) (i % block_length) x inside
    ∙ get_or-drop (block_length * (i / block_length)) (joined blocks) (i % block_length) x
    ∙ ap (λ n. get_or (joined blocks) n x) place
    ∙ get_or_default (joined blocks) i x d lt

-- where there is room, the block of the next item has room, and was reserved whole
pub block_has_room : {X Z : Type 0} (blocks : List (Vec X Z)) (count room : ℕ) (block : Vec X Z)
    → IsRow blocks count room → 0 < room → block ≡ get_or blocks (count / block_length) block
    → (length (vec_items block) < block_length) × (block_length ≤ vec_capacity block)
block_has_room blocks count room block row some is =
    let there : count / block_length < length blocks = omega (arith, row.roomy) in
    let holds : length (vec_items block) ≡ length (take block_length (drop (block_length * (count / block_length)) (joined blocks))) = ap length (ap vec_items is ∙ block_holds blocks (count / block_length) block row.are_blocks there) in (
      omega
          (arith, holds, row.count_is, length-take block_length (drop (block_length * (count / block_length)) (joined blocks)), length-drop (block_length * (count / block_length)) (joined blocks)),
      subst (λ b. block_length ≤ vec_capacity b) (sym is)
          (All-get_or (λ b. block_length ≤ vec_capacity b) blocks (count / block_length) block there row.are_blocks.whole),
    )

-- an item put there is an item at the end of all
pub row_appended : {X Z : Type 0} (blocks : List (Vec X Z)) (count room : ℕ) (block new : Vec X Z) (x : X)
    → IsRow blocks count room → 0 < room → block ≡ get_or blocks (count / block_length) block
    → vec_items new ≡ vec_items block ++ x ∷ [] → vec_capacity block ≤ vec_capacity new
    → IsRow (set blocks (count / block_length) new) (count + 1) (room - 1) × (joined (set blocks (count / block_length) new) ≡ joined blocks ++ x ∷ [])
row_appended {X} blocks count room block new x row some is items kept =
    let there : count / block_length < length blocks = omega (arith, row.roomy) in
    let holds : vec_items block ≡ take block_length (drop (block_length * (count / block_length)) (joined blocks)) = ap vec_items is ∙ block_holds blocks (count / block_length) block row.are_blocks there in
    let after = appended blocks (count / block_length) new x row.are_blocks (omega (arith, row.roomy, row.count_is)) (omega (arith, row.count_is)) (omega (arith, row.count_is)) (items ∙ ap (λ (a : List X). a ++ x ∷ []) holds) (omega (arith, kept, (block_has_room blocks count room block row some is).1)) in (
      record {
        are_blocks = after.0;
        count_is = omega (arith, row.count_is, ap length after.1, length_push (joined blocks) x);
        roomy = omega (arith, row.roomy, length-set blocks (count / block_length) new);
        countable = omega (arith, row.countable);
      },
      after.1,
    )

-- an item put in the place of another leaves the count and the room
pub row_replaced : {X Z : Type 0} (blocks : List (Vec X Z)) (count room i : ℕ) (block new : Vec X Z) (x : X)
    → IsRow blocks count room → i < length (joined blocks) → block ≡ get_or blocks (i / block_length) block
    → vec_items new ≡ set (vec_items block) (i % block_length) x → vec_capacity block ≡ vec_capacity new
    → IsRow (set blocks (i / block_length) new) count room
row_replaced blocks count room i block new x row lt is items kept =
    let after = replaced blocks i block new x row.are_blocks lt is items kept in
    record {
      are_blocks = after.0;
      count_is = omega (arith, row.count_is, ap length after.1, length-set (joined blocks) i x);
      roomy = omega (arith, row.roomy, length-set blocks (i / block_length) new);
      countable = row.countable;
    }
