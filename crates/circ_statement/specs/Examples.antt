-- Statements that try the definitions.
use Rattle.std.specs.Prelude.{List, [], ◌∷◌, true, false, codes}
use Rattle.circ_form.specs.declared.forms.Piece.TheVariants.{Hole, Word as OneWord}
use Rattle.circ_theory.specs.declared.parts.Side.TheVariants.{Right}
use Rattle.circ_statement.specs.Words.{Word}
use Rattle.circ_statement.specs.Said.{Said, operators}

-- op _+_ : A A -> A [ assoc prec 33 ]
abbrev pub plus_words : List Word
plus_words =
    codes "op" ∷ (codes "_+_" ∷ (codes ":" ∷ (codes "A" ∷ (codes "A" ∷ (codes "->" ∷ (codes "A" ∷ (codes "["
    ∷ (codes "assoc" ∷ (codes "prec" ∷ (codes "33" ∷ (codes "]" ∷ [])))))))))))

abbrev pub plus : Said
plus =
    operators (record { form = Hole ∷ (OneWord (codes "+") ∷ (Hole ∷ [])); prec = 33; side = Right } ∷ [])
    (codes "A" ∷ (codes "A" ∷ [])) (codes "A") true false false

-- ops ( : -> B [ prec 1 ctor ] x
abbrev pub foreign_words : List Word
foreign_words =
    codes "ops" ∷ (codes "(" ∷ (codes ":" ∷ (codes "->" ∷ (codes "B" ∷ (codes "["
    ∷ (codes "prec" ∷ (codes "1" ∷ (codes "ctor" ∷ (codes "]" ∷ (codes "x" ∷ []))))))))))
