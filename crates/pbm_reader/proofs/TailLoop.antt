-- What stands behind a raster is read to its end.
use Rattle.std.proofs.Common.{◌≡◌, ℕ, ◌+◌, ◌-◌, ◌<◌, ◌≤◌, List, [], ◌∷◌, ◌++◌, length, take, drop, refl, sym, ap, arith}
use Rattle.std.proofs.lemmas.List.{length-append, length-take-le, length-drop, take-append-drop}
use Rattle.pbm_reader.specs.declared.fault.PageFault.{PageFault}
use Rattle.pbm_reader.specs.declared.fault.PageFault.TheVariants as faults
use Rattle.pbm_reader.specs.declared.form.Form.{Form}
use Rattle.pbm_reader.specs.declared.form.Form.TheVariants.{Plain, Raw}
use Rattle.pbm_reader.specs.Spelling.{MayFollow}
use Rattle.layout_outside.specs.Views.{SourceView}
use Rattle.layout_outside.specs.Taken.{Took, TookAll}
use Rattle.pbm_reader.specs.Tail.{TookRest, RestFails, TookTail, TailFails}
use Rattle.pbm_reader.proofs.Taken.{took_more, took_all, prepend_nothing}

-- these bytes were dropped, and so many may follow them
pub record IsSkipping (old now : SourceView) (start left : ℕ) : Type 0 where
  pub bytes : List ℕ
  pub took : Took old now bytes
  pub total : start + length bytes + left ≡ 268435456

pub skipping_begins : (old : SourceView) (start : ℕ) → start ≤ 268435456 → IsSkipping old old start (268435456 - start)
skipping_begins old start low = record { bytes = []; took = prepend_nothing old.left; total = omega (arith, low) }

pub skipping_on : (old middle new : SourceView) (start left count : ℕ) (more : List ℕ) → IsSkipping old middle start left → count ≡ length more → Took middle new more → count ≤ left
    → IsSkipping old new start (left - count)
skipping_on old middle new start left count more s len took fits = record {
  bytes = s.bytes ++ more;
  took = took_more old middle new s.bytes more s.took took;
  total = omega (arith, s.total, length-append s.bytes more, len, fits);
}

pub skipped : (old middle new : SourceView) (start left : ℕ) → IsSkipping old middle start left → TookAll middle new [] → TookRest old new start (268435456 - left)
skipped old middle new start left s end = record {
  bytes = s.bytes ++ [];
  took = took_all old middle new s.bytes [] s.took end;
  end_is = omega (arith, s.total, length-append s.bytes []);
  low = omega (arith, s.total, length-append s.bytes []);
}

pub skipping_long : (old middle new : SourceView) (start left count : ℕ) (more : List ℕ) → IsSkipping old middle start left → count ≡ length more → Took middle new more → left < count
    → RestFails old new start faults.InputTooLong
skipping_long old middle new start left count more s len took longer =
    (s.bytes ++ more, took_more old middle new s.bytes more s.took took, omega (arith, s.total, length-append s.bytes more, len, longer))

pub skipping_unread : (old now : SourceView) (start left : ℕ) → IsSkipping old now start left → RestFails old now start faults.ReadFault
skipping_unread old now start left s = (s.bytes, s.took, omega (arith, s.total))

-- ---- behind the first byte

follows_more : (form : Form) (byte : ℕ) (bytes : List ℕ) → MayFollow form (byte ∷ []) → MayFollow form (byte ∷ bytes)
follows_more Plain byte bytes f = f
follows_more Raw byte bytes f = absurd f

pub tail_taken : (old middle new : SourceView) (form : Form) (start end byte : ℕ) → Took old middle (byte ∷ []) → MayFollow form (byte ∷ []) → TookRest middle new (start + 1) end → TookTail old new form start end
tail_taken old middle new form start end byte took follows r = record {
  tail = byte ∷ r.bytes;
  took = took_all old middle new (byte ∷ []) r.bytes took r.took;
  follows = follows_more form byte r.bytes follows;
  end_is = let is = r.end_is in omega (arith, is);
  low = let low = r.low in omega (arith, low);
}

pub tail_fails : (old middle new : SourceView) (form : Form) (start byte : ℕ) (fault : PageFault) → Took old middle (byte ∷ []) → MayFollow form (byte ∷ []) → start < 268435456
    → RestFails middle new (start + 1) fault → TailFails old new form start fault
tail_fails old middle new form start byte faults.InputTooLong took follows low f =
    let room = 268435456 - (start + 1) in
    let front = take room f.0 in
    let behind = drop room f.0 in
    let more = f.2 in (
      byte ∷ f.0,
      took_more old middle new (byte ∷ []) f.0 took f.1,
      (
        byte ∷ front,
        behind,
        ap (λ (l : List ℕ). byte ∷ l) (sym (take-append-drop room f.0)),
        follows_more form byte front follows,
        omega (arith, length-take-le room f.0 (omega (arith, more, low)), low),
        omega (arith, length-drop room f.0, more, low),
      ),
    )
tail_fails old middle new form start byte faults.ReadFault took follows low f =
    let fits = f.2 in
    (byte ∷ f.0, took_more old middle new (byte ∷ []) f.0 took f.1, follows_more form byte f.0 follows, omega (arith, fits))
tail_fails old middle new form start byte (faults.Magic at) took follows low f = absurd f
tail_fails old middle new form start byte (faults.Header at) took follows low f = absurd f
tail_fails old middle new form start byte faults.HeaderTooLong took follows low f = absurd f
tail_fails old middle new form start byte faults.ZeroSize took follows low f = absurd f
tail_fails old middle new form start byte faults.TooManyImages took follows low f = absurd f
tail_fails old middle new form start byte (faults.TooLarge wide high) took follows low f = absurd f
tail_fails old middle new form start byte (faults.Truncated at) took follows low f = absurd f
tail_fails old middle new form start byte (faults.Pixel at) took follows low f = absurd f
tail_fails old middle new form start byte (faults.Trailing at) took follows low f = absurd f
tail_fails old middle new form start byte faults.Memory took follows low f = absurd f

-- one byte, at the limit
pub tail_long : (old new : SourceView) (form : Form) (start byte : ℕ) → Took old new (byte ∷ []) → start ≡ 268435456 → TailFails old new form start faults.InputTooLong
tail_long old new form start byte took limit = (byte ∷ [], took, ([], byte ∷ [], refl, tt, omega (arith, limit), omega arith))

-- nothing stands behind the raster, or it was not read
pub tail_ends : (old new : SourceView) (form : Form) (start : ℕ) → TookAll old new [] → start ≤ 268435456 → TookTail old new form start start
tail_ends old new form start end low = record { tail = []; took = end; follows = tt; end_is = omega arith; low = omega (arith, low) }

pub tail_unread : (old : SourceView) (form : Form) (start : ℕ) → start ≤ 268435456 → TailFails old old form start faults.ReadFault
tail_unread old form start low = ([], prepend_nothing old.left, tt, omega (arith, low))
