-- What a lent buffer holds once a call has ended, as a whole list. Definitions only; assumes nothing.
use Rattle.std.specs.Prelude.{◌-◌, List, ◌++◌, length, drop, replicate}

module _ {A : Type 0} where
  -- `overlay ys xs`: ys in front, and "places past them unchanged"
  abbrev pub overlay : List A → List A → List A
  overlay ys xs = ys ++ drop (length ys) xs

  -- `zeroed zero xs`: every place of xs is zero
  abbrev pub zeroed : A → List A → List A
  zeroed zero xs = replicate (length xs) zero

  -- `filled zero ys xs`: ys in front, and "all places past the counts are zero"
  abbrev pub filled : A → List A → List A → List A
  filled zero ys xs = ys ++ replicate (length xs - length ys) zero
