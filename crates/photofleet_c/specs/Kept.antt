-- What stands behind the handle of a session.
use Rattle.std.specs.Prelude.{Bool, true, false, Option, Some, None}
use base.Fml.{Fml, feq, fsep, fex}
use denote.RattleType.{RattleType}
use denote.RawPtr.{Ptr, null_ptr}
use Rattle.std.specs.Box.Ownership.{box_owns}
use Rattle.std.specs.Global.{Global}
use Rattle.std.specs.contracts.impls.GlobalAllocator.TheImpl.{ghosts}

-- if the session isn't open, the pointer is null and owns nothing; otherwise it owns the block with the session, and the right of
-- an allocator to free it
abbrev pub may_own : (R : RattleType) → Ptr → Bool → Option R.Denot → Fml
may_own R p is_open None = fsep (feq Bool is_open false) (feq Ptr p null_ptr)
may_own R p is_open (Some x) = fsep (feq Bool is_open true) (fex Global (λ alloc. box_owns (ghosts.dealloc_token alloc) R p x))
