-- One number for an entry of the table by lead byte: its length and the range of its second byte. Definitions only; assumes
-- nothing.
use Rattle.std.specs.Prelude.{◌≡◌, List, ℕ, ◌+◌, ◌*◌, ◌<◌, get_or}
use Rattle.text.specs.Text.{length_of, second_low, second_high}

-- 0xN_LL_HH: N bytes, the second from LL to HH
unfoldable pub entry_of : ℕ → ℕ
unfolding length_of second_low second_high
entry_of b = length_of b * 0x1_00_00 + second_low b * 0x1_00 + second_high b

-- the list is the table: at each byte stands its entry
pub record IsLead (table : List ℕ) : Type 0 where
  pub entry : (b : ℕ) → b < 0x1_00 → get_or table b 0 ≡ entry_of b
