-- The texts of the code are those of the library.
use Rattle.std.proofs.Common.{◌≡◌, refl}
use Rattle.circ_lib.specs.declared.texts.TheConstants.{BITS, STREAM, TREE, LANG, PROC}
use Rattle.circ_lib.specs.Bits.{bits_text}
use Rattle.circ_lib.specs.Stream.{stream_text}
use Rattle.circ_lib.specs.Tree.{tree_text}
use Rattle.circ_lib.specs.Lang.{lang_text}
use Rattle.circ_lib.specs.Proc.{proc_text}

pub bits_is : BITS.now ≡ bits_text
unfolding bits_text
bits_is = refl

pub stream_is : STREAM.now ≡ stream_text
unfolding stream_text
stream_is = refl

pub tree_is : TREE.now ≡ tree_text
unfolding tree_text
tree_is = refl

pub lang_is : LANG.now ≡ lang_text
unfolding lang_text
lang_is = refl

pub proc_is : PROC.now ≡ proc_text
unfolding proc_text
proc_is = refl

pub ruleset written = (bits_is, stream_is, tree_is, lang_is, proc_is)
