-- Bytes that begin no raw image that is whole, and decide nothing.
use Rattle.std.proofs.Common.{◌≡◌, ℕ, List, [], ◌∷◌, length, ap, arith}
use Rattle.pbm_reader.specs.declared.fault.PageFault.TheVariants as faults
use Rattle.pbm_reader.specs.Spelling.{IsPage, magic}
use Rattle.pbm_reader.specs.declared.form.Form.TheVariants.{Plain}
use Rattle.pbm_reader.specs.Fault.{Begins, IsTruncated}
use Rattle.pbm_reader.specs.Images.{AreUndecided}
use Rattle.pbm_reader.proofs.OneFault.{cut_undecided, letter_undecided, nothing_undecided, page_undecided}
use Rattle.pbm_reader.proofs.RawImages.{image_begins, image_trails, no_image, one_name}

pub none_open : AreUndecided []
none_open = (nothing_undecided, no_image)

pub letter_open : AreUndecided (80 ∷ [])
letter_open = (letter_undecided, λ i. let b = image_begins (80 ∷ []) i in omega (arith, ap length b.1))

pub cut_open : (taken : List ℕ) (at : ℕ) → IsTruncated taken at → AreUndecided taken
cut_open taken at t = (cut_undecided taken at t, λ i. differ at (length i.image) (image_trails taken (faults.Truncated at) i t))
  where
    differ : (m n : ℕ) → faults.Truncated m ≡ faults.Trailing n → ⊥
    differ m n e = cc

pub plain_open : (taken : List ℕ) → IsPage taken → Begins (magic Plain) taken → AreUndecided taken
plain_open taken p plain = (page_undecided taken p, λ i. one_name taken plain (image_begins taken i))
