-- The rights to numbers. Each is a blank ledger, and there is no other of its name.
use Rattle.std.specs.Prelude.{◌≡◌, ℕ, ◌+◌, List, ◌++◌, Some, slice_get, length, All}
use Rattle.std.specs.declared.sync.ledger.Blank.{Blank}

-- This is the right to this number, of all that a run began with. The last of these is that to 1.
pub record IsRight (rights : List Blank) (number : ℕ) (right : Blank) : Type 0 where
  pub place : ℕ
  pub number_is : place + number ≡ length rights
  pub right_is : slice_get rights place ≡ Some right
  pub one_part : right.parts ≡ 1

-- these rights weren't handed out yet
pub record AreLeft (rights left : List Blank) : Type 0 where
  pub given : List Blank
  pub all_are : rights ≡ left ++ given
  pub one_part : All (λ (right : Blank). right.parts ≡ 1) left

-- how many numbers a run in threads has
abbrev pub most_numbers : ℕ
most_numbers = 4194304
