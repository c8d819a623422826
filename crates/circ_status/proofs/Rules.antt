-- Rules for goals about joined texts.
use Rattle.std.proofs.Common.{append_assoc}

pub ruleset joins = (append_assoc)
