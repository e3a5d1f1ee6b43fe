pub mod Signers
