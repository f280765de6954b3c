-- What the proofs of several functions use.
mod Along
mod Answers
mod SheetBytes
mod ResentBytes
