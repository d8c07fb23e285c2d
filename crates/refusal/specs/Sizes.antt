-- The paper's sizes. "Each limit is accepted at the number and refused one above." Definitions only; assumes nothing.
use Rattle.std.specs.Prelude.{ℕ, Bool, ltb}

-- "Rows 0 to 1,048,576."
abbrev pub max_rows : ℕ
max_rows = 1_048_576

-- "String table up to 16,777,216 bytes."
abbrev pub max_table : ℕ
max_table = 16_777_216

-- "A token up to 1,024 bytes."
abbrev pub max_token : ℕ
max_token = 1_024

-- "A text or word up to 65,536 bytes."
abbrev pub max_text : ℕ
max_text = 65_536

-- "A prefix up to 64 bytes."
abbrev pub max_prefix : ℕ
max_prefix = 64

-- `above limit n`: n is more than the limit allows
abbrev pub above : ℕ → ℕ → Bool
above limit n = ltb limit n

-- the mark for no id and no start: the largest u32, which no row's id may be
abbrev pub no_id : ℕ
no_id = 4_294_967_295
