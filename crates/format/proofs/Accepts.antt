-- Condition 2: a book is accepted exactly when it has document 01's layout, and reading answers the written book's counts. Assumes nothing.
use mathlib.Core.Path.{◌≡◌, sym}
use mathlib.Core.List.{List}
use Prim.Native.Nat.{ℕ}
use Rattle.format.specs.Format.{Book, WellFormed, book_counts, encode, book_of}
use Rattle.format.specs.Reading.{accepted, reading, Accepted}
use Rattle.format.specs.Layout.{HasLayout, Bytes, Condition2-layout}
use Rattle.format.proofs.Verdict.{promise_verdict}
use Rattle.format.proofs.Accepted.{accepted_promise, promise_accepted}
use Rattle.format.proofs.Decode.{promise_layout}
use Rattle.format.proofs.Encode.{book_of_lem, layout_promise}
use Rattle.format.proofs.Bytes.{encode_bytes}

-- accepted bytes are those of the book that they hold
accepted_layout : (s : List ℕ) → Bytes s → Accepted s → HasLayout s
accepted_layout s bytes a =
    let l = promise_layout s bytes (accepted_promise s a) in
    record { book = book_of s; well = l.0; bytes = sym l.1 }

-- reading a written book answers its counts
encode_reading : (b : Book) → WellFormed b → reading (encode b) ≡ accepted (book_counts b)
unfolding reading
encode_reading b w = rw (promise_verdict (encode b) (layout_promise b w), book_of_lem b w)

-- the bytes of a well-formed book are accepted
pub written_accepted : (b : Book) → WellFormed b → Accepted (encode b)
written_accepted b w = promise_accepted (encode b) (layout_promise b w)

layout_accepted : (s : List ℕ) → HasLayout s → Accepted s
layout_accepted s h = rw h.bytes (written_accepted h.book h.well)

pub condition2_layout : Condition2-layout
condition2_layout =
    record {
      exactly = λ s bytes. (accepted_layout s bytes, layout_accepted s);
      each = λ b w. record { bytes = encode_bytes b w; says = book_of_lem b w; answers = encode_reading b w };
    }
