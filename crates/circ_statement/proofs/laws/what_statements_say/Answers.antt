use Rattle.std.proofs.Common.{◌≡◌, ◌<◌, ℕ, zero, suc, [], ◌∷◌, true, false, codes, Some, inr, refl, ap, ◌∙◌, arith}
use Rattle.std.proofs.lemmas.Option.{same_Some}
use Rattle.circ_form.specs.declared.forms.Piece.TheVariants.{Hole, Word as OneWord}
use Rattle.circ_theory.specs.declared.parts.Side.TheVariants.{Neither, Right}
use Rattle.circ_statement.specs.declared.attributes.Attribute.TheVariants.{Prec, Assoc}
use Rattle.circ_statement.specs.Words.{Word}
use Rattle.circ_statement.specs.Heads.{is_listed, IsForeign}
use Rattle.circ_statement.proofs.Decimals.{number_gives}
use Rattle.circ_statement.proofs.laws.what_statements_say.Goals as goal

pub returns-clause-equation : goal.returns-clause-equation
returns-clause-equation c = record {
  body = codes "a" ∷ (codes "=" ∷ []);
  sides = record { left = codes "a" ∷ []; right = [] };
  exec = false;
  unmarked = refl;
  are_sides = record { words = refl; one_left = refl; one_right = refl };
  says = refl;
}

pub returns-clause-operator : goal.returns-clause-operator
returns-clause-operator c = record {
  front = codes "_+_" ∷ [];
  args = codes "A" ∷ (codes "A" ∷ []);
  result = codes "A";
  marks = codes "[" ∷ (codes "assoc" ∷ (codes "prec" ∷ (codes "33" ∷ (codes "]" ∷ []))));
  head = record { words = refl; no_colon = refl; no_arrow = refl };
  declares = record {
    given = record { prec = Some 33; side = Neither; assoc = true; comm = false; idem = false };
    forms = record { form = Hole ∷ (OneWord (codes "+") ∷ (Hole ∷ [])); prec = 33; side = Right } ∷ [];
    some = λ e. absurd (cc);
    are_names = refl;
    is_name = refl;
    attributes = inr (codes "assoc" ∷ (codes "prec" ∷ (codes "33" ∷ [])), (record { words = refl; no_close = refl }, record { attributes = Assoc ∷ (Prec 33 ∷ []); words = ap (λ w. codes "assoc" ∷ (codes "prec" ∷ (w ∷ []))) (number_gives (codes "33") 33 refl); added = refl }));
    spelled = (record { read = refl; form = refl; fits = refl; prec = refl; side = refl; above = refl }, tt);
    says = refl;
  };
}

none_before : (m : ℕ) (v : Word) → m < 2 → IsForeign (codes "prec" ∷ (codes "1" ∷ (codes "ctor" ∷ []))) m v → ⊥
none_before zero v l f = let no : is_listed (codes "prec") ≡ false = ap is_listed (same_Some (codes "prec") v f.there) ∙ f.unlisted in absurd (cc)
none_before (suc zero) v l f = let no = f.no_number in absurd (cc)
none_before (suc (suc m)) v l f = absurd (omega arith)

pub returns-clause-left_out : goal.returns-clause-left_out
returns-clause-left_out c = record {
  front = codes "(" ∷ [];
  args = [];
  result = codes "B";
  marks = codes "[" ∷ (codes "prec" ∷ (codes "1" ∷ (codes "ctor" ∷ (codes "]" ∷ (codes "x" ∷ [])))));
  inside = codes "prec" ∷ (codes "1" ∷ (codes "ctor" ∷ []));
  rest = codes "x" ∷ [];
  head = record { words = refl; no_colon = refl; no_arrow = refl };
  bracket = record { words = refl; no_close = refl };
  foreign = record { place = 2; foreign = record { there = refl; unlisted = refl; no_number = refl }; first = none_before };
}
