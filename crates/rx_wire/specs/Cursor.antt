-- A place between fields.
use Rattle.std.specs.Prelude.{ℕ, List}

-- The bytes that are read, and where the next field begins. Of the field before it, the offset behind
-- its tag, and the offset of its content, which is behind the length where it has one.
pub record Cursor : Type 0 where
  pub bytes : List ℕ
  pub at : ℕ
  pub behind_tag : ℕ
  pub content : ℕ

-- before the first field
abbrev pub before : List ℕ → ℕ → Cursor
before bytes at = record { bytes = bytes; at = at; behind_tag = at; content = at }
