-- What the threads of a run took from its front, and what they concluded.
use Rattle.std.specs.Prelude.{◌≡◌, ℕ, ◌+◌}

-- so many parts of the right to know the whole, and how many desks their holder took and concluded
pub record Counts : Type 0 where
  pub parts : ℕ
  pub taken : ℕ
  pub concluded : ℕ

abbrev pub one_taken : Counts → Counts
one_taken c = record c { taken = c.taken + 1 }

abbrev pub one_concluded : Counts → Counts
one_concluded c = record c { concluded = c.concluded + 1 }

-- each desk that its holder took was concluded
abbrev pub IsEven : Counts → Type 0
IsEven c = c.taken ≡ c.concluded

-- those of two holders, in one
abbrev pub both : Counts → Counts → Counts
both a b = record {
  parts = a.parts + b.parts;
  taken = a.taken + b.taken;
  concluded = a.concluded + b.concluded;
}
