-- A proof in version 2 and the one that was read: how they are checked, and their texts.
use Rattle.std.proofs.Common.{◌≡◌, ◌⊎◌, ◌++◌, ℕ, List, [], ◌∷◌, ◌+◌, ◌<◌, length, codes, decimal, arith, refl, sym, ◌∙◌, ap, subst, inl, inr}
use Rattle.std.proofs.lemmas.Fmt.{decimal_digit}
use Rattle.circ_theory.specs.Theory.{Theory}
use Rattle.circ_theory.specs.Goal.{Goal}
use Rattle.circ_grammar.specs.FirstBad.{file_text}
use Rattle.circ_grammar.specs.Grammar.{proof_lines}
use Rattle.circ_proof.specs.Accepted.{BlocksDerive, Derives, BlockFails, FirstFail}
use Rattle.circ_proof.specs.Proof.{Block, Proof, IsPlain, ProofFor}
use Rattle.circ_proof_text.specs.ProofText.{numbers_of, proof_text}
use Rattle.circ_reports.specs.Upgrade.{upgraded, CheckAlike}
use Rattle.circ_top.specs.Upgraded.{DifferInVersion}

pub upgraded_fits : (th : Theory) (p : Proof) → ProofFor th p → ProofFor th (upgraded p)
upgraded_fits th p f = record {
  version = inr refl;
  sorted = f.sorted;
  within = f.within;
  entries = f.entries;
  short_table = f.short_table;
  places = f.places;
  one_each = f.one_each;
  certificates = f.certificates;
  some_block = f.some_block;
  blocks = f.blocks;
  few_steps = f.few_steps;
}

module _ (th : Theory) (p : Proof) where
  fails_in_new : (H : List Goal) (bs : List Block) (n : ℕ) → BlockFails th p H bs n → BlockFails th (upgraded p) H bs n
  fails_in_new H [] n f = f
  fails_in_new H (b ∷ bs) n (inl x) = inl x
  fails_in_new H (b ∷ bs) n (inr (e, steps, m, is, f)) = inr (e, steps, m, is, fails_in_new (H ++ b.goals) bs m f)

  fails_in_old : (H : List Goal) (bs : List Block) (n : ℕ) → BlockFails th (upgraded p) H bs n → BlockFails th p H bs n
  fails_in_old H [] n f = f
  fails_in_old H (b ∷ bs) n (inl x) = inl x
  fails_in_old H (b ∷ bs) n (inr (e, steps, m, is, f)) = inr (e, steps, m, is, fails_in_old (H ++ b.goals) bs m f)

  derive_in_new : (H : List Goal) (bs : List Block) (dss : List (List Goal)) → BlocksDerive th p H bs dss → BlocksDerive th (upgraded p) H bs dss
  derive_in_new H [] [] d = d
  derive_in_new H [] (ds ∷ dss) d = d
  derive_in_new H (b ∷ bs) [] d = d
  derive_in_new H (b ∷ bs) (ds ∷ dss) d = (d.0, derive_in_new (H ++ b.goals) bs dss d.1)

  derive_in_old : (H : List Goal) (bs : List Block) (dss : List (List Goal)) → BlocksDerive th (upgraded p) H bs dss → BlocksDerive th p H bs dss
  derive_in_old H [] [] d = d
  derive_in_old H [] (ds ∷ dss) d = d
  derive_in_old H (b ∷ bs) [] d = d
  derive_in_old H (b ∷ bs) (ds ∷ dss) d = (d.0, derive_in_old (H ++ b.goals) bs dss d.1)

  fail_in_new : (n : ℕ) → FirstFail th p n → FirstFail th (upgraded p) n
  fail_in_new n (inl x) = inl x
  fail_in_new n (inr (a, m, is, f)) = inr (a, m, is, fails_in_new [] p.blocks m f)

  fail_in_old : (n : ℕ) → FirstFail th (upgraded p) n → FirstFail th p n
  fail_in_old n (inl x) = inl x
  fail_in_old n (inr (a, m, is, f)) = inr (a, m, is, fails_in_old [] p.blocks m f)

  pub upgraded_alike : CheckAlike th p (upgraded p)
  upgraded_alike = record {
    fails = λ n. (fail_in_new n, fail_in_old n);
    derives = λ dss. (
      λ d. record { admissible = d.admissible; blocks = derive_in_new [] p.blocks dss d.blocks },
      λ d. record { admissible = d.admissible; blocks = derive_in_old [] p.blocks dss d.blocks },
    );
  }

-- what stands behind the first
abbrev rest_of : {X : Type 0} → List X → List X
rest_of [] = []
rest_of (x ∷ xs) = xs

-- what stands behind the version in the text of a proof
abbrev text_behind : Proof → List ℕ
text_behind p = 10 ∷ file_text (rest_of (proof_lines (numbers_of p)))

-- the text with these digits for the version
abbrev text_with : (digits : List ℕ) → Proof → List ℕ
text_with ds p = (codes "circproof" ++ (32 ∷ (ds ++ []))) ++ text_behind p

text_of_version : (p : Proof) (n : ℕ) → p.version ≡ n → proof_text p ≡ text_with (decimal n) p
text_of_version p n e = let P : ℕ → Type 0 = λ v. proof_text p ≡ text_with (decimal v) p in subst P e refl

digit : (p : Proof) (n : ℕ) → n < 10 → text_with (decimal n) p ≡ text_with ((48 + n) ∷ []) p
digit p n small = ap (λ ds. text_with ds p) (decimal_digit n small)

pub differ_in_version : (th : Theory) (p : Proof) → ProofFor th p → DifferInVersion (proof_text p) (proof_text (upgraded p))
differ_in_version th p f = go f.version
  where
    second : proof_text (upgraded p) ≡ codes "circproof " ++ 50 ∷ text_behind p
    second = digit p 2 (omega arith)

    go : ((p.version ≡ 1) × IsPlain p) ⊎ (p.version ≡ 2) → DifferInVersion (proof_text p) (proof_text (upgraded p))
    go (inl (e, plain)) =
        record { version = 49; rest = text_behind p; first_is = text_of_version p 1 e ∙ digit p 1 (omega arith); second_is = second }
    go (inr e) = record { version = 50; rest = text_behind p; first_is = text_of_version p 2 e ∙ digit p 2 (omega arith); second_is = second }

pub same_length : (old new : List ℕ) → DifferInVersion old new → length new ≡ length old
same_length old new d =
    let a : length old ≡ length (codes "circproof " ++ d.version ∷ d.rest) = ap length d.first_is in
    let b : length new ≡ length (codes "circproof " ++ 50 ∷ d.rest) = ap length d.second_is in
    b ∙ sym a
