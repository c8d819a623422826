-- The texts of answers.
use Rattle.std.specs.Prelude.{ℕ, List, [], ◌∷◌, ◌++◌, codes, decimal, flat_map}
use Rattle.circ_read.specs.declared.cause.Cause.{Cause}
use Rattle.circ_read.specs.declared.cause.Cause.TheVariants as cause

-- the words of a cause
abbrev pub words_of_cause : Cause → List ℕ
words_of_cause (cause.NotAscii n) = codes "not ascii at "
words_of_cause (cause.Control n) = codes "control at "
words_of_cause (cause.LeftOut w) = codes "left out: "
words_of_cause cause.Shape = codes "shape"
words_of_cause cause.UnknownTheory = codes "unknown theory"
words_of_cause cause.UnknownSort = codes "unknown sort"
words_of_cause (cause.TooLong n) = codes "too long: "
words_of_cause cause.NoParse = codes "no parse"
words_of_cause (cause.Ambiguous first second) = codes "ambiguous: "
words_of_cause (cause.Twice n) = codes "twice: "
words_of_cause (cause.IllSorted n) = codes "ill sorted: "
words_of_cause (cause.NotLinear n) = codes "not linear: "
words_of_cause (cause.HoleCount n) = codes "holes: "
words_of_cause cause.NoConstant = codes "no constant"
words_of_cause (cause.NotVisible n) = codes "not visible: "
words_of_cause (cause.NowHidden n) = codes "now hidden: "
words_of_cause (cause.Limit n) = codes "limit: "
words_of_cause cause.NoGoal = codes "no goal"
words_of_cause cause.Unclosed = codes "unclosed"
words_of_cause cause.Line = codes "form"
words_of_cause cause.LineLimit = codes "limit"

-- what stands behind them: a word, two readings, a number
abbrev pub details_of_cause : Cause → List ℕ
details_of_cause (cause.LeftOut w) = w
details_of_cause (cause.Ambiguous first second) = first ++ codes " | " ++ second
details_of_cause (cause.TooLong n) = decimal n ++ codes " tokens"
details_of_cause (cause.NotAscii n) = decimal n
details_of_cause (cause.Control n) = decimal n
details_of_cause (cause.Twice n) = decimal n
details_of_cause (cause.IllSorted n) = decimal n
details_of_cause (cause.NotLinear n) = decimal n
details_of_cause (cause.HoleCount n) = decimal n
details_of_cause (cause.NotVisible n) = decimal n
details_of_cause (cause.NowHidden n) = decimal n
details_of_cause (cause.Limit n) = decimal n
details_of_cause _ = []

abbrev pub cause_text : Cause → List ℕ
cause_text c = words_of_cause c ++ details_of_cause c

abbrev pub refused_text : (step : ℕ) → List ℕ
refused_text n = codes "refused at " ++ decimal n ++ codes "\n"

abbrev pub unreadable_text : (place_words : List ℕ) → (file place : ℕ) → Cause → List ℕ
unreadable_text place_words file place c = codes "unreadable: file " ++ decimal file ++ place_words ++ decimal place ++ codes ", " ++ cause_text c ++ codes "\n"

abbrev pub too_long_text : (file : ℕ) → List ℕ
too_long_text file = codes "too long: file " ++ decimal file ++ codes "\n"

abbrev pub spent_text : (rewrites derives steps : ℕ) → List ℕ
spent_text r d s = codes "spent: " ++ decimal r ++ codes " rewrites, " ++ decimal d ++ codes " derives, " ++ decimal s ++ codes " steps\n"

abbrev pub too_big_text : (nodes : ℕ) → List ℕ
too_big_text n = codes "too big: " ++ decimal n ++ codes " nodes\n"

abbrev pub too_deep_text : (depth : ℕ) → List ℕ
too_deep_text n = codes "too deep: " ++ decimal n ++ codes " levels\n"

abbrev pub long_expansion_text : List ℕ
long_expansion_text = codes "expansion too long\n"

abbrev pub misfit_text : (entry : ℕ) → List ℕ
misfit_text n = codes "no fit at " ++ decimal n ++ codes "\n"

-- a word, with a space before each of its letters
abbrev pub differ_text : List (List ℕ) → List ℕ
differ_text letters = codes "differ:" ++ flat_map (λ w. 32 ∷ w) letters ++ codes "\n"
