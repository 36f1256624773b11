-- The bytes that start a frame, in ASCII. Assumes nothing.
use Rattle.std.specs.Prelude.{Bool, ◌||◌, ℕ, eqb}

-- d, y, w, s, b, f, m
unfoldable pub calendar_command : ℕ → Bool
calendar_command c = eqb c 100 || (eqb c 121 || (eqb c 119 || (eqb c 115 || (eqb c 98 || (eqb c 102 || eqb c 109)))))

-- V, R, E, T, Q, K, U, and those of the calendar
unfoldable pub bookless : ℕ → Bool
bookless c = eqb c 86 || (eqb c 82 || (eqb c 69 || (eqb c 84 || (eqb c 81 || (eqb c 75 || (eqb c 85 || calendar_command c))))))

-- P, O, S, C, and those that need no book
unfoldable pub starts : ℕ → Bool
starts c = eqb c 80 || (eqb c 79 || (eqb c 83 || (eqb c 67 || bookless c)))
