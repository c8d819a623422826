-- Which answers may stand in the place of one another.
use Rattle.std.specs.Prelude.{◌≡◌, ℕ, List, length}
use Rattle.circ_read.specs.declared.cause.Cause.{Cause}
use Rattle.circ_read.specs.declared.cause.Cause.TheVariants as cause
use Rattle.circ_status.specs.Texts.{unreadable_text, too_long_text, differ_text}
use Rattle.circ_status.specs.declared.status.Status.{Status}
use Rattle.circ_status.specs.declared.status.Status.TheVariants as status

-- the same cause; of several readings, any two may be shown
pub data IsLikeCause : Cause → Cause → Type 0 where
  same_cause : (c : Cause) → IsLikeCause c c
  other_readings : (a b c d : List ℕ) → IsLikeCause (cause.Ambiguous a b) (cause.Ambiguous c d)

-- An answer with its text, and what may be answered in its place: the same; of a file that is too long, another count; of a text that is not read, a like
-- cause; of several shortest words, any may be shown.
pub data IsLike : Status → List ℕ → Status → List ℕ → Type 0 where
  itself : (s : Status) (text : List ℕ) → IsLike s text s text
  another_count : (file n m : ℕ) → IsLike (status.TooLong file n) (too_long_text file) (status.TooLong file m) (too_long_text file)
  like_cause : (place_words : List ℕ) (file place : ℕ) (c d : Cause) → IsLikeCause c d
      → IsLike (status.Unreadable file place c) (unreadable_text place_words file place c)
      (status.Unreadable file place d) (unreadable_text place_words file place d)
  another_word : (v w : List (List ℕ)) (n : ℕ) → length v ≡ n → length w ≡ n → IsLike (status.Differ n) (differ_text v) (status.Differ n) (differ_text w)
