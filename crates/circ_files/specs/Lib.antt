pub mod Refusals
pub mod Like
pub mod Files
pub mod Intake
pub mod Quiet
pub mod TheoryFile
pub mod ProofFile
pub mod ScriptFile
