-- How bytes are cut into tokens.
use Rattle.std.specs.Prelude.{◌≡◌, ◌≢◌, ℕ, ◌+◌, ◌<◌, ◌≤◌, List, [], ◌∷◌, ◌++◌, length, true, false, nat_lt, if◌then◌else◌, Option, Some, None}
use Rattle.std.specs.List.{list_all}
use Rattle.circ_lexer.specs.declared.tokens.Span.{Span}
use Rattle.circ_lexer.specs.declared.fault.LexFault.{LexFault}
use Rattle.circ_lexer.specs.declared.fault.LexFault.TheVariants.{NotAscii, Control}
use Rattle.circ_lexer.specs.Bytes.{is_blank, is_special, is_plain, is_bad, is_in_line, begins_comment, ends_run, ends_line}

-- from one place up to another
abbrev pub span : ℕ → ℕ → Span
span from to = record { from = from; to = to }

-- what is wrong with a bad byte at a place
abbrev pub fault_of : ℕ → ℕ → LexFault
fault_of b place = if nat_lt b 128 then Control place else NotAscii place

-- Before these bytes stands a comment: it begins as one, and goes on to the end of the line.
pub record IsComment (c bs : List ℕ) : Type 0 where
  pub begins : begins_comment (c ++ bs) ≡ true
  pub in_line : list_all is_in_line c ≡ true
  pub whole : ends_line bs ≡ true

-- Before these bytes stands a run: plain bytes, at least one, as many as there are, that begin no comment.
pub record IsRun (w bs : List ℕ) : Type 0 where
  pub some : w ≢ []
  pub plain : list_all is_plain w ≡ true
  pub no_comment : begins_comment (w ++ bs) ≡ false
  pub whole : ends_run bs ≡ true

-- Before these bytes stands a bad byte, outside comments, perhaps after the first bytes of a run.
pub record IsBad (w : List ℕ) (b : ℕ) (bs : List ℕ) : Type 0 where
  pub plain : list_all is_plain w ≡ true
  pub no_comment : begins_comment (w ++ b ∷ bs) ≡ false
  pub bad : is_bad b ≡ true

-- The bytes from a place on are cut into tokens with these spans, up to the end, or up to this fault.
pub data Cuts : ℕ → List ℕ → List Span → Option LexFault → Type 0 where
  -- nothing is left
  end : (at : ℕ) → Cuts at [] [] None
  -- a blank is passed over
  blank : (at b : ℕ) (bs : List ℕ) (ss : List Span) (o : Option LexFault) → is_blank b ≡ true → Cuts (at + 1) bs ss o → Cuts at (b ∷ bs) ss o
  -- and so is a comment
  comment : (at : ℕ) (c bs : List ℕ) (ss : List Span) (o : Option LexFault) → IsComment c bs → Cuts (at + length c) bs ss o → Cuts at (c ++ bs) ss o
  -- a special byte is a token
  special : (at b : ℕ) (bs : List ℕ) (ss : List Span) (o : Option LexFault) → is_special b ≡ true → Cuts (at + 1) bs ss o
      → Cuts at (b ∷ bs) (span at (at + 1) ∷ ss) o
  -- and so is a run
  run : (at : ℕ) (w bs : List ℕ) (ss : List Span) (o : Option LexFault) → IsRun w bs → Cuts (at + length w) bs ss o
      → Cuts at (w ++ bs) (span at (at + length w) ∷ ss) o
  -- a bad byte is the fault
  bad : (at : ℕ) (w : List ℕ) (b : ℕ) (bs : List ℕ) → IsBad w b bs → Cuts at (w ++ b ∷ bs) [] (Some (fault_of b (at + length w)))

-- The tokens of the bytes have these spans.
abbrev pub AreSpans : List ℕ → List Span → Type 0
AreSpans bytes ss = Cuts 0 bytes ss None

-- The first bad byte outside comments is this fault.
abbrev pub IsFirstBad : List ℕ → LexFault → Type 0
IsFirstBad bytes fault = (ss : List Span) × Cuts 0 bytes ss (Some fault)

-- From one place on, the spans are not empty, each begins where the one before has ended or later, and the last ends by another place.
abbrev pub AreOrdered : ℕ → List Span → ℕ → Type 0
AreOrdered at [] to = at ≤ to
AreOrdered at (s ∷ ss) to = (at ≤ s.from) × ((s.from < s.to) × AreOrdered s.to ss to)
