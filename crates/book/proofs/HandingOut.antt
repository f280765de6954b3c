-- What is handed out is what a call that writes numbers or bytes leaves behind. Assumes nothing.
use mathlib.Core.Path.{◌≡◌, sym}
use mathlib.Core.List.{List}
use Prim.Native.Nat.{ℕ}
use Rattle.std.specs.Prelude.{Result, Ok, Err}
use Rattle.format.specs.Writing.{into}
use Rattle.format.proofs.Replies.{into_short, into_whole}
use Rattle.book.specs.Lent.{HandedOut, handed}
use Rattle.book.specs.declared.lent.NoRoom.{NoRoom}

pub handed_into : (xs o o' : List ℕ) (r : Result ℕ NoRoom) → HandedOut xs o o' r → handed r o' ≡ into xs o
handed_into xs o o' (Ok n) h = rw (h.1.0, h.1.1) (sym (into_whole xs o h.0))
handed_into xs o o' (Err e) h = rw (h.1) (sym (into_short xs o h.0))
