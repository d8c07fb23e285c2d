-- The program's lines: how its input falls into lines, and what a line's answer prints as. Definitions only; assumes nothing.
use Rattle.std.specs.Prelude.{ℕ, zero, suc, ◌+◌, ◌/◌, ◌%◌, cond, List, [], ◌∷◌, ◌++◌, ltb, eqb, length}
use Rattle.refusal.specs.declared.Fault.{Fault}
use Rattle.refusal.specs.Refusal.{number}
use Rattle.text.specs.Ascii.{ascii}

-- the byte LF
abbrev pub lf : ℕ
lf = 0x0A

-- the lines of `begun`, the bytes of a line so far, and what comes after it
unfoldable pub lines_after : List ℕ → List ℕ → List (List ℕ)
lines_after [] [] = []
lines_after (c ∷ begun) [] = (c ∷ begun) ∷ []
lines_after begun (b ∷ s) =
    let ends = begun ∷ lines_after [] s in
    let goes_on = lines_after (begun ++ (b ∷ [])) s in
    cond (eqb b lf) ends goes_on

-- "lines from standard input, each ended by LF, the last LF optional. A line is all bytes before its LF; an empty rest after
-- the last LF is no line."
unfoldable pub lines : List ℕ → List (List ℕ)
lines input = lines_after [] input

-- how many bytes stand before the first LF, or before the end where there is none
unfoldable pub until_lf : List ℕ → ℕ
until_lf [] = 0
until_lf (b ∷ s) = cond (eqb b lf) 0 (suc (until_lf s))

-- a number's digits in decimal. The first argument bounds how many; more than the number is enough.
unfoldable pub digits : ℕ → ℕ → List ℕ
digits zero n = []
digits (suc more) n =
    let last = (0x30 + n % 10) ∷ [] in
    let all = digits more (n / 10) ++ last in
    cond (ltb n 10) last all

unfoldable pub decimal : ℕ → List ℕ
decimal n = digits (suc n) n

-- numbers, each after one space
unfoldable pub spaced : List ℕ → List ℕ
spaced [] = []
spaced (n ∷ ns) = 0x20 ∷ decimal n ++ spaced ns

-- "For each line it prints the number of ids and the ids, separated by one space". "Each printed line ends with LF."
unfoldable pub printed_ids : List ℕ → List ℕ
printed_ids ids = decimal (length ids) ++ spaced ids ++ (lf ∷ [])

-- "or `refused` and the number", after what was refused, if it says so
unfoldable pub printed_refusal : List ℕ → Fault → List ℕ
printed_refusal what f = what ++ ascii "refused" ++ spaced (number f ∷ []) ++ (lf ∷ [])
