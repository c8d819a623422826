-- The kinds of bytes.
use Rattle.std.specs.Prelude.{ℕ, List, [], ◌∷◌, Bool, true, ◌==◌, ◌||◌, ◌&&◌, not, nat_lt, nat_eq, codes}
use Rattle.std.specs.List.{starts_with}

-- space, tab, line feed, carriage return
abbrev pub is_blank : ℕ → Bool
is_blank b = (b == 32) || (b == 9) || (b == 10) || (b == 13)

-- ( ) [ ] { } ,
abbrev pub is_special : ℕ → Bool
is_special b = (b == 40) || (b == 41) || (b == 91) || (b == 93) || (b == 123) || (b == 125) || (b == 44)

-- a byte of a run: visible, and no token by itself
abbrev pub is_plain : ℕ → Bool
is_plain b = nat_lt 32 b && nat_lt b 127 && not (is_special b)

-- a byte that stands in comments only: 127 or more, or below 32 and no blank
abbrev pub is_bad : ℕ → Bool
is_bad b = nat_lt 126 b || (nat_lt b 32 && not (is_blank b))

-- no line feed
abbrev pub is_in_line : ℕ → Bool
is_in_line b = not (b == 10)

-- A comment begins here, if a token would.
abbrev pub begins_comment : List ℕ → Bool
begins_comment bs = starts_with nat_eq bs (codes "---") || starts_with nat_eq bs (codes "***")

-- A run ends before these bytes.
abbrev pub ends_run : List ℕ → Bool
ends_run [] = true
ends_run (b ∷ bs) = is_blank b || is_special b

-- A line ends before these bytes.
abbrev pub ends_line : List ℕ → Bool
ends_line [] = true
ends_line (b ∷ bs) = b == 10
