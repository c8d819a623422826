-- What stands in the rows that `clap` finds.
use Rattle.std.proofs.Common.{◌≡◌, ◌<◌, ◌≤◌, ◌^◌, ℕ, List, sym, ◌∙◌, arith, Option, Some, None, Result, Ok, Err, decimal, codes}
use Rattle.std.specs.Str.Parse.{ParsesUnsigned}
use Rattle.std.proofs.lemmas.Fmt.{parse-decimal}
use Rattle.clap.specs.Walk.{Row, all_of, first_of}
use Rattle.circ_top.specs.Words.{IsNoNumber, IsBudget, IsNoBudget, IsFlag, Finds, FindsNothing}
use Rattle.circ_turn.specs.declared.search.Limits.{Limits}

-- a text that does not parse, or parses as another number, is no number within the limit
pub not_parsed : {E : Type 0} (text : List ℕ) (most : ℕ) (e : E) (r : Result ℕ E) → most < 2 ^ 64 → ParsesUnsigned 64 10 text r → r ≡ Err e
    → IsNoNumber most text
not_parsed text most e r fits h i n is small = let p = parse-decimal 64 n text r (omega (arith, small, fits)) (omega (arith, small, fits)) is h in cc

pub parsed_other : {E : Type 0} (text : List ℕ) (most m : ℕ) (r : Result ℕ E) → most < 2 ^ 64 → ParsesUnsigned 64 10 text r → r ≡ Ok m
    → (m ≤ most → text ≡ decimal m → ⊥) → IsNoNumber most text
parsed_other {E} text most m r fits h i other n is small =
    let p = parse-decimal 64 n text r (omega (arith, small, fits)) (omega (arith, small, fits)) is h in
    let same : m ≡ n = cc in
    other (rw same small) (rw same is)

-- the parts that a call gives, and what the rows have in their place
module _ (rows : List Row) where
  pub no_steps : (value : Option (List ℕ)) → value ≡ first_of (codes "steps") rows → IsNoBudget 100000 1000000 value → FindsNothing rows
  no_steps value e h limits name given f = h limits.steps (rw e f.steps)

  pub no_derives : (value : Option (List ℕ)) → value ≡ first_of (codes "derives") rows → IsNoBudget 256 10000 value → FindsNothing rows
  no_derives value e h limits name given f = h limits.derives (rw e f.derives)

  pub no_name : None ≡ first_of (codes "command") rows → FindsNothing rows
  no_name e limits name given f = let never : None ≡ Some name = e ∙ f.name_is in cc

  pub none_given : None ≡ all_of (codes "words") rows → FindsNothing rows
  none_given e limits name given f = let never : None ≡ Some given = e ∙ f.given_are in cc

  pub finds : (s d p q : Option (List ℕ)) (limits : Limits) (name : List ℕ) (given : List (List ℕ)) → s ≡ first_of (codes "steps") rows
      → IsBudget 100000 1000000 s limits.steps → d ≡ first_of (codes "derives") rows → IsBudget 256 10000 d limits.derives
      → p ≡ first_of (codes "split") rows → IsFlag p limits.split → q ≡ first_of (codes "rewrite") rows → IsFlag q limits.rewrite
      → Some name ≡ first_of (codes "command") rows → Some given ≡ all_of (codes "words") rows → Finds rows limits name given
  finds s d p q limits name given e a f b i k j l g h = record {
    steps = rw e at a;
    derives = rw f at b;
    split = rw i at k;
    rewrite = rw j at l;
    name_is = sym g;
    given_are = sym h;
  }
