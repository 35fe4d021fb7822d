-- One turn of each loop, and how the reading of digits and of a form ends: of the bytes of a line or a form that are left, and of the
-- times that a report is still to be made. Assumes nothing.
use Prim.Native.Nat.{ℕ, suc, ◌+◌, ◌-◌, ◌<◌, ◌≤◌}
use native.Mathlib.Numerals.{add-one}
use native.Mathlib.Omega.{arith}
use mathlib.Core.Path.{◌≡◌}
use mathlib.Core.List.{List}
use lib.ListN.{length, drop, get_or, drop_of_length-le}
use lib.Seq.{drop-cons}
use Rattle.std.specs.Prelude.{None, Some, Result}
use Rattle.script.specs.declared.report.Report.{Report}
use Rattle.script.specs.declared.text.Reading.{Reading}
use Rattle.script.specs.Report.{Made, make_report, make_more}
use Rattle.script.specs.Text.{digit, longer, digits, read_next, read_on}

module _ (base : ℕ) (bytes : List ℕ) (value n i : ℕ) where
  -- a digit is read
  pub digits_turn : (d : ℕ) → i < length bytes → digit base (get_or bytes i 0) ≡ Some d
      → digits base (drop i bytes) value n ≡ digits base (drop (i + 1) bytes) (longer value base d) (n + 1)
  unfolding digits
  digits_turn d h is = rw (drop-cons bytes i 0 h, is, add-one i)

  -- another byte ends the number
  pub digits_stop : i < length bytes → digit base (get_or bytes i 0) ≡ None
      → digits base (drop i bytes) value n ≡ record { value = value; length = n }
  unfolding digits
  digits_stop h is = rw (drop-cons bytes i 0 h, is)

  -- so does the end of the bytes
  pub digits_end : length bytes ≤ i → digits base (drop i bytes) value n ≡ record { value = value; length = n }
  unfolding digits
  digits_end h = rw (drop_of_length-le bytes h)

module _ (line : List ℕ) (next : Result Reading Reading) (form : List ℕ) (i : ℕ) where
  -- a byte of the form is read by
  pub read_turn : i < length form → read_on line next (drop i form) ≡ read_on line (read_next line next (get_or form i 0)) (drop (i + 1) form)
  unfolding read_on
  read_turn h = rw (drop-cons form i 0 h, add-one)

  -- the form is read to its end
  pub read_end : length form ≤ i → read_on line next (drop i form) ≡ next
  unfolding read_on
  read_end h = rw (drop_of_length-le form h)

-- a report is made once more
pub make_turn : (before : Made) (report : Report) (times done : ℕ) → done < times
    → make_more (make_report before.words report) report (times - (done + 1)) ≡ make_more before report (times - done)
unfolding make_more
make_turn before report times done h =
    let e : times - done ≡ suc (times - (done + 1)) = omega arith in
    rw e
