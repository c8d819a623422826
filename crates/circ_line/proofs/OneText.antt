-- A line in range has one text, a text is of one line, and no line feed is in it.
use Rattle.std.specs.Prelude.{◌≡◌, ℕ, ◌+◌, ◌%◌, ◌<◌, ◌^◌, List, [], ◌∷◌, ◌++◌, map, flat_map, refl, Option, Some, None, Bool, true, false, if◌then◌else◌, nat_eq, codes, decimal}
use Rattle.std.specs.List.{AllByRecursion}
use Rattle.std.proofs.Common.{sym, ◌∙◌, ap, arith}
use Rattle.std.proofs.lemmas.Option.{same_Some}
use Rattle.std.proofs.lemmas.Fmt.{decimal_by_steps}
use Rattle.circ_theory.specs.declared.way.Way.{Way}
use Rattle.circ_theory.specs.declared.way.Way.TheVariants.{Forth, Back}
use Rattle.circ_proof.specs.Plain.{LinkOf, Equation_link, Hypothesis_link, Assumption_link, Content_link}
use Rattle.circ_line.specs.Line.{Variable_line, Application_line, Line, head_line, table_line, place_line, certificate_line, block_line, goal_line, given_line, simplify_line, reduce_line, derive_line, cases_line, done_line, same_line, split_line, if_line, left_line, right_line, end_line}
use Rattle.circ_line.specs.Text.{joined, path_word, way_word, link_words, line_words, line_text, AreNumbers, IsPathInRange, IsLinkInRange, IsInRange}
use Rattle.std.specs.Option.{option_map}
use Rattle.circ_line.specs.Front.{rest_after, then_whole, after_or}
use Rattle.circ_line.specs.Read.{field_at, numbers_of, link_of, to_application, application_of, short_line, line_of}
use Rattle.circ_line.specs.Plain.{ReadsLine, OneText, NoFeed, NoFeedWithin}
use Rattle.circ_line.proofs.LineTexts.{line_gives, line_again}

pub one_text : OneText
one_text l m fl fm e = same_Some l m (sym (line_again l fl) ∙ ap line_of e ∙ line_again m fm)

-- what `line_of` reads of bytes is the line that they are the text of
pub reads : (bytes : List ℕ) (o : Option Line) → o ≡ line_of bytes → ReadsLine bytes o
reads bytes (Some l) e = line_gives bytes l (sym e)
reads bytes None e = none
  where
    none : (l : Line) → IsInRange l → bytes ≡ line_text l → ⊥
    none l fit same = let found : None ≡ Some l = e ∙ (ap line_of same ∙ line_again l fit) in absurd (cc)

-- what is read of the bytes after a side is the line's link
abbrev no_link : List ℕ → Option Line
no_link bytes = after_or (rest_after (codes "a") bytes) application_of (short_line bytes)

abbrev no_left : List ℕ → Option Line
no_left bytes = after_or (rest_after (codes "right ") bytes) (λ r. option_map right_line (link_of r)) (no_link bytes)

pub reads_left : (bytes rest : List ℕ) (o : Option (LinkOf ℕ)) → Some rest ≡ rest_after (codes "left ") bytes → o ≡ link_of rest
    → ReadsLine bytes (option_map left_line o)
reads_left bytes rest o e same =
    reads bytes (option_map left_line o)
    (ap (option_map left_line) same ∙ ap (λ x. after_or x (λ r. option_map left_line (link_of r)) (no_left bytes)) e)

pub reads_right : (bytes rest : List ℕ) (o : Option (LinkOf ℕ)) → None ≡ rest_after (codes "left ") bytes → Some rest ≡ rest_after (codes "right ") bytes
    → o ≡ link_of rest → ReadsLine bytes (option_map right_line o)
reads_right bytes rest o d e same =
    reads bytes (option_map right_line o)
    (ap (option_map right_line) same ∙ ap (λ x. after_or x (λ r. option_map right_line (link_of r)) (no_link bytes)) e
    ∙ ap (λ x. after_or x (λ r. option_map left_line (link_of r)) (no_left bytes)) d)

-- what is read of the bytes after an application's letter is the line's operator and arguments
pub reads_application : (bytes rest : List ℕ) (o : Option (ℕ × List ℕ)) → None ≡ rest_after (codes "left ") bytes → None ≡ rest_after (codes "right ") bytes
    → Some rest ≡ rest_after (codes "a") bytes → o ≡ then_whole field_at numbers_of rest → ReadsLine bytes (option_map to_application o)
reads_application bytes rest o d e f same =
    reads bytes (option_map to_application o)
    (ap (option_map to_application) same ∙ ap (λ x. after_or x application_of (short_line bytes)) f
    ∙ ap (λ x. after_or x (λ r. option_map right_line (link_of r)) (no_link bytes)) e
    ∙ ap (λ x. after_or x (λ r. option_map left_line (link_of r)) (no_left bytes)) d)

feed-append : (a b : List ℕ) → NoFeed a → NoFeed b → NoFeed (a ++ b)
feed-append [] b h k = k
feed-append (x ∷ a) b h k = (h.0, feed-append a b h.1 k)

digit_feed : (d : ℕ) → nat_eq (48 + d) 10 ≡ false
digit_feed d = grind arith

Free : ℕ → List ℕ → Type 0
Free n ds = NoFeed ds

number_feed : (n : ℕ) → n < 2 ^ 64 → NoFeed (decimal n)
unfolding Free
number_feed = decimal_by_steps Free (λ n s. (digit_feed n, tt)) (λ n ds s before. feed-append ds ((48 + n % 10) ∷ []) before (digit_feed (n % 10), tt))

path_number : (n : ℕ) → n < 2 ^ 16 → NoFeed (decimal n)
path_number n small = number_feed n (omega arith)

line_number : (n : ℕ) → n < 2 ^ 32 → NoFeed (decimal n)
line_number n small = number_feed n (omega arith)

numbers_feed : (ns : List ℕ) → AreNumbers ns → AllByRecursion NoFeed (map decimal ns)
numbers_feed [] fit = tt
numbers_feed (n ∷ ns) fit = (line_number n fit.0, numbers_feed ns fit.1)

entries_feed : (ns : List ℕ) → IsPathInRange ns → AllByRecursion NoFeed (map decimal ns)
entries_feed [] fit = tt
entries_feed (n ∷ ns) fit = (path_number n fit.0, entries_feed ns fit.1)

marked_feed : (mark : ℕ) → nat_eq mark 10 ≡ false → (ws : List (List ℕ)) → AllByRecursion NoFeed ws → NoFeed (flat_map (λ w. mark ∷ w) ws)
marked_feed mark m [] free = tt
marked_feed mark m (w ∷ ws) free = (m, feed-append w (flat_map (λ w. mark ∷ w) ws) free.0 (marked_feed mark m ws free.1))

joined_feed : (mark : ℕ) → nat_eq mark 10 ≡ false → (ws : List (List ℕ)) → AllByRecursion NoFeed ws → NoFeed (joined mark ws)
joined_feed mark m [] free = tt
joined_feed mark m (w ∷ ws) free = feed-append w (flat_map (λ w. mark ∷ w) ws) free.0 (marked_feed mark m ws free.1)

path_feed : (ns : List ℕ) → IsPathInRange ns → NoFeed (path_word ns)
path_feed [] fit = (refl, tt)
path_feed (n ∷ ns) fit = joined_feed 46 refl (map decimal (n ∷ ns)) (entries_feed (n ∷ ns) fit)

way_feed : (w : Way) → NoFeed (way_word w)
way_feed Forth = (refl, tt)
way_feed Back = (refl, tt)

-- a word with no line feed, by a look at each byte
has_feed : List ℕ → Bool
has_feed [] = false
has_feed (b ∷ bs) = if nat_eq b 10 then true else has_feed bs

plain_word : (w : List ℕ) → has_feed w ≡ false → NoFeed w
unfolding has_feed
plain_word [] e = tt
plain_word (b ∷ bs) e = go (nat_eq b 10) refl e (plain_word bs)
  where
    go : (t : Bool) → nat_eq b 10 ≡ t → (if t then true else has_feed bs) ≡ false → (has_feed bs ≡ false → NoFeed bs) → NoFeed (b ∷ bs)
    go true q e ih = absurd (cc)
    go false q e ih = (q, ih e)

link_feed : (l : LinkOf ℕ) → IsLinkInRange l → AllByRecursion NoFeed (link_words l)
unfolding has_feed
link_feed (Equation_link n w p ts cs) fit = (plain_word (codes "equation") refl, (way_feed w, (line_number n fit.0.0, (path_feed p fit.1, numbers_feed ts fit.0.1))))
link_feed (Hypothesis_link n w p ts cs) fit = (plain_word (codes "hypothesis") refl, (way_feed w, (line_number n fit.0.0, (path_feed p fit.1, numbers_feed ts fit.0.1))))
link_feed (Assumption_link n w p) fit = (plain_word (codes "assumption") refl, (way_feed w, (line_number n fit.0.0, (path_feed p fit.1, tt))))
link_feed (Content_link f p t) fit = (plain_word (codes "content") refl, (line_number f fit.0.0, (path_feed p fit.1, (line_number t fit.0.1.0, tt))))

words_feed : (l : Line) → IsInRange l → AllByRecursion NoFeed (line_words l)
unfolding has_feed
words_feed (head_line v) fit = (plain_word (codes "circproof") refl, (line_number v (omega (arith, fit.1)), tt))
words_feed (table_line (Variable_line n s)) fit = (plain_word (codes "v") refl, numbers_feed (n ∷ s ∷ []) fit)
words_feed (table_line (Application_line f ts)) fit = (plain_word (codes "a") refl, numbers_feed (f ∷ ts) fit)
words_feed (place_line f i) fit = (plain_word (codes "place") refl, numbers_feed (f ∷ i ∷ []) fit)
words_feed certificate_line fit = (plain_word (codes "cert") refl, tt)
words_feed block_line fit = (plain_word (codes "block") refl, tt)
words_feed (goal_line s t) fit = (plain_word (codes "goal") refl, numbers_feed (s ∷ t ∷ []) fit)
words_feed (given_line s t) fit = (plain_word (codes "given") refl, numbers_feed (s ∷ t ∷ []) fit)
words_feed simplify_line fit = (plain_word (codes "simplify") refl, tt)
words_feed reduce_line fit = (plain_word (codes "reduce") refl, tt)
words_feed derive_line fit = (plain_word (codes "derive") refl, tt)
words_feed (cases_line t) fit = (plain_word (codes "cases") refl, numbers_feed (t ∷ []) fit)
words_feed done_line fit = (plain_word (codes "done") refl, tt)
words_feed same_line fit = (plain_word (codes "same") refl, tt)
words_feed (split_line t n) fit = (plain_word (codes "split") refl, numbers_feed (t ∷ n ∷ []) fit)
words_feed if_line fit = (plain_word (codes "if") refl, tt)
words_feed (left_line l) fit = (plain_word (codes "left") refl, link_feed l fit)
words_feed (right_line l) fit = (plain_word (codes "right") refl, link_feed l fit)
words_feed end_line fit = (plain_word (codes "end") refl, tt)

pub no_feed : NoFeedWithin
no_feed l fit = joined_feed 32 refl (line_words l) (words_feed l fit)
