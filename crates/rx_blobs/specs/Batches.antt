-- How many bytes a batch of blobs may have (remote_execution.proto, CacheCapabilities.max_batch_total_size_bytes).
use Rattle.std.specs.Prelude.{ℕ, ◌==◌, ◌||◌, if◌then◌else◌, nat_lt}

-- what the farm tells, where that is lower than 3,000,000 and not 0
abbrev pub batch_limit : ℕ → ℕ
batch_limit told = if (told == 0) || nat_lt 3000000 told then 3000000 else told
