-- At most one refusal holds of a string of bytes.
use Rattle.std.proofs.Common.{◌≡◌, ℕ, ◌+◌, ◌<◌, List, take, refl, ap, inl, inr, arith}
use Rattle.std.proofs.lemmas.Bool.{cases_lt}
use Rattle.x86_decoder.specs.declared.fault.DecodeFault.{DecodeFault}
use Rattle.x86_decoder.specs.declared.fault.DecodeFault.TheVariants.{NotListed, Truncated, TooLong}
use Rattle.x86_decoder.specs.Refusals.{LeavesAt, Refused}
use Rattle.x86_decoder.proofs.Fronts.{front_of, goes_on_front, not_both}

-- the byte with which none goes on is the first
leaves_once : (a b : ℕ) (bytes : List ℕ) → LeavesAt a bytes → LeavesAt b bytes → a ≡ b
leaves_once a b bytes here there =
    elim (cases_lt a b) [
      | (inl less) ↦ absurd (here.there (there.before a less))
      | (inr least) ↦ elim (cases_lt b a) [
        | (inl less) ↦ absurd (there.there (here.before b less))
        | (inr most) ↦ omega arith
      ]
    ]

pub refused_once : (f g : DecodeFault) (bytes : List ℕ) → Refused f bytes → Refused g bytes → f ≡ g
refused_once (NotListed a) (NotListed b) bytes r s = ap NotListed (leaves_once a b (take 15 bytes) r s)
refused_once (NotListed a) Truncated bytes r s = absurd (not_both a bytes r (goes_on_front bytes s))
refused_once (NotListed a) TooLong bytes r s = absurd (not_both a bytes r s.0)
refused_once Truncated (NotListed b) bytes r s = absurd (not_both b bytes s (goes_on_front bytes r))
refused_once Truncated Truncated bytes r s = refl
refused_once Truncated TooLong bytes r s = absurd (s.1 r)
refused_once TooLong (NotListed b) bytes r s = absurd (not_both b bytes s r.0)
refused_once TooLong Truncated bytes r s = absurd (r.1 s)
refused_once TooLong TooLong bytes r s = refl
