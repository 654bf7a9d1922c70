-- The text that the deciding program prints.
use Rattle.std.specs.Prelude.{List, [], ◌∷◌, ◌++◌, ℕ, zero, suc, ◌+◌, ◌/◌, ◌%◌}
use Prim.Native.Char.{code}
use Prim.Native.String.{String, [] as done, ◌∷◌ as ◌then◌}
use Rattle.base.specs.Lists.{flat_map}

-- a text's bytes: it has characters of ASCII only, of one byte each
abbrev pub ascii : String → List ℕ
ascii done = []
ascii (c then s) = code c ∷ ascii s

-- the last digit of n
abbrev pub last_digit : ℕ → ℕ
last_digit n = code "0" + n % 10

-- n in decimal, but nothing for 0; k is no less than the number of digits
abbrev pub written : ℕ → ℕ → List ℕ
written zero n = []
written (suc k) zero = []
written (suc k) (suc m) = written k (suc m / 10) ++ (last_digit (suc m) ∷ [])

-- a number in decimal, with no zeros in front
unfoldable pub digits : ℕ → List ℕ
digits zero = ascii "0"
digits (suc m) = written (suc m) (suc m)

-- a number behind a word
abbrev pub field : String → ℕ → List ℕ
field word n = ascii word ++ digits n

-- a refusal with its number and position: `refused 1 at 0`
unfoldable pub refusal_text : ℕ → ℕ → List ℕ
refusal_text number at = field "refused " number ++ field " at " at ++ ascii "\n"

-- a verdict: its kind, and the listing, a number for each column: `kind 3`, and in the next line `columns 1 3`
unfoldable pub verdict_text : ℕ → List ℕ → List ℕ
verdict_text kind columns = field "kind " kind ++ ascii "\ncolumns" ++ flat_map columns (field " ") ++ ascii "\n"
