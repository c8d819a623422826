-- The text of STREAM.
use Rattle.std.specs.Prelude.{ℕ, List, ◌++◌, codes}

unfoldable pub stream_text : List ℕ
stream_text =
    codes "theory STREAM is\n"
    ++ codes "  sorts Elt Stream .\n"
    ++ codes "  op hd : Stream -> Elt .\n"
    ++ codes "  op tl : Stream -> Stream .\n"
    ++ codes "  derivative hd(*:Stream) .\n"
    ++ codes "  derivative tl(*:Stream) .\n"
    ++ codes "  op cons : Elt Stream -> Stream .\n"
    ++ codes "  op repeat : Elt -> Stream .\n"
    ++ codes "  ops odd even : Stream -> Stream .\n"
    ++ codes "  op zip : Stream Stream -> Stream .\n"
    ++ codes "  var E : Elt .\n"
    ++ codes "  vars S T : Stream .\n"
    ++ codes "  eq hd(cons(E, S)) = E .\n"
    ++ codes "  eq tl(cons(E, S)) = S .\n"
    ++ codes "  eq hd(repeat(E)) = E .\n"
    ++ codes "  eq tl(repeat(E)) = repeat(E) .\n"
    ++ codes "  eq hd(odd(S)) = hd(S) .\n"
    ++ codes "  eq tl(odd(S)) = odd(tl(tl(S))) .\n"
    ++ codes "  eq even(S) = odd(tl(S)) .\n"
    ++ codes "  eq hd(zip(S, T)) = hd(S) .\n"
    ++ codes "  eq tl(zip(S, T)) = zip(T, tl(S)) .\n"
    ++ codes "endtheory\n"
