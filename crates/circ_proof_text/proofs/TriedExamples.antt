-- The texts of examples.
use Rattle.std.specs.Prelude.{◌≡◌, ℕ, List, [], ◌∷◌, ◌++◌, codes, refl, Some, map}
use Rattle.std.proofs.Common.{sym, ◌∙◌, ap, arith, inl, inr, true≢false}
use Rattle.circ_theory.specs.Examples.{streams}
use Rattle.circ_theory.proofs.Casing.{hidden_tells}
use Rattle.circ_proof.specs.Proof.{ProofFor}
use Rattle.circ_line.specs.Line.{Line, Variable_line, table_line, head_line}
use Rattle.circ_line.specs.Read.{line_of}
use Rattle.circ_line.proofs.LineTexts.{line_gives}
use Rattle.circ_grammar.specs.Grammar.{proof_lines}
use Rattle.circ_grammar.specs.FirstBad.{file_text, Line_fault}
use Rattle.circ_grammar.specs.Now.{Tabling}
use Rattle.circ_proof_text.specs.ProofText.{numbers_of, proof_text, FirstCause}
use Rattle.circ_proof_text.specs.Reading.{nothing_read, StandsFor, after_line}
use Rattle.circ_proof_text.specs.Examples.{zips, zips_text, sums, sums_text, given_bit, given_bit_text, itself, itself_given}
use Rattle.circ_proof_text.proofs.Standing.{starts, takes_line, faults_check}

abbrev with_feeds : List (List ℕ) → List ℕ
with_feeds [] = []
with_feeds (b ∷ bs) = b ++ (10 ∷ with_feeds bs)

-- Texts that are read as these lines are theirs.
texts_are : (bs : List (List ℕ)) (ls : List Line) → map line_of bs ≡ map Some ls → file_text ls ≡ with_feeds bs
texts_are [] [] e = refl
texts_are [] (l ∷ ls) e = absurd (cc)
texts_are (b ∷ bs) [] e = absurd (cc)
texts_are (b ∷ bs) (l ∷ ls) e =
    let first : line_of b ≡ Some l = cc in
    let rest : map line_of bs ≡ map Some ls = cc in
    ap (λ x. x ++ (10 ∷ file_text ls)) (sym (line_gives b l first).0) ∙ ap (λ x. b ++ (10 ∷ x)) (texts_are bs ls rest)

zips_lines : List (List ℕ)
zips_lines =
    codes "circproof 1" ∷ codes "v 0 1" ∷ codes "a 7 0" ∷ codes "a 4 0" ∷ codes "a 7 2" ∷ codes "a 8 1 3"
    ∷ codes "block" ∷ codes "goal 4 0" ∷ codes "derive"
    ∷ codes "reduce" ∷ codes "left equation > 9 - 1 3" ∷ codes "left equation > 7 - 0" ∷ codes "same"
    ∷ codes "reduce" ∷ codes "left equation > 10 - 1 3" ∷ codes "left equation > 8 1 0" ∷ codes "left hypothesis > 0 - 2" ∷ codes "same"
    ∷ codes "done" ∷ codes "end" ∷ []

pub zips_written : proof_text zips ≡ zips_text
unfolding zips_lines
zips_written = texts_are zips_lines (proof_lines (numbers_of zips)) refl

sums_lines : List (List ℕ)
sums_lines =
    codes "circproof 1" ∷ codes "v 1 1" ∷ codes "v 0 1" ∷ codes "a 10 1" ∷ codes "a 11 1" ∷ codes "place 9 1"
    ∷ codes "cert" ∷ codes "left equation > 11 - 0 1" ∷ codes "cert" ∷ codes "left equation > 12 - 0 1"
    ∷ codes "block" ∷ codes "goal 2 3" ∷ codes "derive"
    ∷ codes "reduce" ∷ codes "left equation > 13 - 1" ∷ codes "right equation > 15 - 1" ∷ codes "same"
    ∷ codes "reduce" ∷ codes "left equation > 14 - 1" ∷ codes "left hypothesis > 0 1 1" ∷ codes "right equation > 16 - 1" ∷ codes "same"
    ∷ codes "done" ∷ codes "end" ∷ []

pub sums_written : proof_text sums ≡ sums_text
unfolding sums_lines
sums_written = texts_are sums_lines (proof_lines (numbers_of sums)) refl

given_bit_lines : List (List ℕ)
given_bit_lines =
    codes "circproof 2" ∷ codes "v 0 1" ∷ codes "v 0 0" ∷ codes "a 1" ∷ codes "a 7 0"
    ∷ codes "block" ∷ codes "goal 3 0" ∷ codes "given 1 2" ∷ codes "cases 1"
    ∷ codes "reduce" ∷ codes "left equation > 9 - 0 1" ∷ codes "if" ∷ codes "left assumption > 0 -" ∷ codes "same" ∷ codes "same"
    ∷ codes "done" ∷ codes "end" ∷ []

pub given_bit_written : proof_text given_bit ≡ given_bit_text
unfolding given_bit_lines
given_bit_written = texts_are given_bit_lines (proof_lines (numbers_of given_bit)) refl

pub itself_fits : ProofFor streams itself
itself_fits = record {
  version = inl (refl, record { certificates = tt; blocks = (record { names = (refl, tt); steps = (tt, ((tt, tt), (tt, tt))) }, tt) });
  sorted = (omega arith, tt);
  within = (refl, tt);
  entries = (omega arith, tt);
  short_table = omega arith;
  places = record { increasing = tt; places = tt };
  one_each = refl;
  certificates = tt;
  some_block = λ e. absurd (cc);
  blocks = (
    record {
      some_goal = λ e. absurd (cc);
      names = (record { left = omega arith; right = omega arith; same_sort = refl; conds = tt; few_conds = omega arith }, tt);
      goals = refl;
      steps = (tt, ((tt, tt), (tt, tt)));
      ended = ((λ e. absurd (cc)), ((λ e. absurd (cc)), refl));
    },
    tt,
  );
  few_steps = omega arith;
}

pub itself_given_fits : ProofFor streams itself_given
itself_given_fits = record {
  version = inr refl;
  sorted = (omega arith, (omega arith, tt));
  within = (refl, (refl, tt));
  entries = (omega arith, (omega arith, tt));
  short_table = omega arith;
  places = record { increasing = tt; places = tt };
  one_each = refl;
  certificates = tt;
  some_block = λ e. absurd (cc);
  blocks = (
    record {
      some_goal = λ e. absurd (cc);
      names = (
        record {
          left = omega arith;
          right = omega arith;
          same_sort = refl;
          conds = (record { left = omega arith; right = omega arith; same_sort = refl; visible = λ h. true≢false (sym ((hidden_tells streams 0).1 h)) }, tt);
          few_conds = omega arith;
        },
        tt,
      );
      goals = refl;
      steps = (tt, ((tt, tt), (tt, tt)));
      ended = ((λ e. absurd (cc)), ((λ e. absurd (cc)), refl));
    },
    tt,
  );
  few_steps = omega arith;
}

-- The second line of these bytes names a sort that there is not, whatever comes later.
pub no_sort : (later : List ℕ) → FirstCause streams (codes "circproof 1\nv 0 2\n" ++ later) (Line_fault 2)
no_sort later =
    let head : StandsFor streams (codes "circproof 1\n") [] (after_line streams nothing_read (head_line 1) Tabling)
    = takes_line streams [] (codes "circproof 1") [] nothing_read (head_line 1) Tabling (starts streams) (omega arith, omega arith) (line_gives (codes "circproof 1") (head_line 1) refl).0 refl refl refl in
    faults_check streams (codes "circproof 1\n") (codes "v 0 2") later [] (after_line streams nothing_read (head_line 1) Tabling)
    (table_line (Variable_line 0 2)) head (omega arith, (omega arith, tt)) (line_gives (codes "v 0 2") (table_line (Variable_line 0 2)) refl).0 refl
