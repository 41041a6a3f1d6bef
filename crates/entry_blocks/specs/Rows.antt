-- Rows of items in blocks.
use Rattle.std.specs.Prelude.{◌≡◌, ℕ, zero, suc, ◌+◌, ◌*◌, ◌<◌, ◌≤◌, ◌^◌, List, [], ◌∷◌, length, map, take, drop, All}
use Rattle.std.specs.Prelude.{vec_items, vec_capacity}
use Rattle.std.specs.List.{flat_map}
use Rattle.std.specs.declared.vec.Vec.{Vec}

-- The number of items in a full block.
abbrev pub block_length : ℕ
block_length = 1024

-- A list cut into a given number of blocks, each `width` items wide unless the list ends earlier.
abbrev pub cut : {X : Type 0} → ℕ → ℕ → List X → List (List X)
cut width zero xs = []
cut width (suc n) xs = take width xs ∷ cut width n (drop width xs)

-- The items of blocks, one block after the other.
abbrev pub joined : {X Z : Type 0} → List (Vec X Z) → List X
joined blocks = flat_map vec_items blocks

-- Blocks in which each one is full before the next has an item, and each has room for a whole block.
pub record AreBlocks {X Z : Type 0} (blocks : List (Vec X Z)) : Type 0 where
  pub cut_is : map vec_items blocks ≡ cut block_length (length blocks) (joined blocks)
  pub within : length (joined blocks) ≤ block_length * length blocks
  pub whole : All (λ block. block_length ≤ vec_capacity block) blocks

-- Blocks that hold `count` items, with space for `room` more; the sum of the two is below 2^64.
pub record IsRow {X Z : Type 0} (blocks : List (Vec X Z)) (count : ℕ) (room : ℕ) : Type 0 where
  pub are_blocks : AreBlocks blocks
  pub count_is : count ≡ length (joined blocks)
  pub roomy : count + room ≤ block_length * length blocks
  pub countable : count + room < 2 ^ 64
