-- An answer is the one that the definition gives, or want of memory, which no definition gives.
use Rattle.std.specs.Prelude.{◌≡◌, ◌≢◌, ⊤, Option, None, Some, Ok, Err}
use Rattle.std.specs.declared.result.Result.{Result}
use Rattle.crease_model.specs.View.{PatternView}
use Rattle.crease_store.specs.declared.faults.StoreFault.{StoreFault}
use Rattle.crease_store.specs.declared.faults.StoreFault.TheVariants as fault
use Rattle.crease_store.specs.declared.faults.StoreRefusal.{StoreRefusal}
use Rattle.crease_store.specs.declared.faults.StoreRefusal.TheVariants.{ZeroLength, BadDirection}
use Rattle.crease_store.specs.declared.faults.StoreRefusal.TheVariants.{EdgeOffBorder, OutsideSheet}
use Rattle.crease_store.specs.declared.faults.StoreRefusal.TheVariants.{OnBorder, Crossing}
use Rattle.crease_store.specs.declared.faults.StoreRefusal.TheVariants.{TooManyPieces, NoSuchPiece}

-- the refusal that a fault tells; want of memory is none
abbrev pub refusal_of : StoreFault → Option StoreRefusal
refusal_of fault.ZeroLength = Some ZeroLength
refusal_of fault.BadDirection = Some BadDirection
refusal_of fault.EdgeOffBorder = Some EdgeOffBorder
refusal_of fault.OutsideSheet = Some OutsideSheet
refusal_of fault.OnBorder = Some OnBorder
refusal_of (fault.Crossing piece) = Some (Crossing piece)
refusal_of (fault.TooManyPieces pieces) = Some (TooManyPieces pieces)
refusal_of fault.NoSuchPiece = Some NoSuchPiece
refusal_of fault.Memory = None

abbrev pub IsRefusal : Option StoreRefusal → Result PatternView StoreRefusal → Type 0
IsRefusal None answer = ⊤
IsRefusal (Some refusal) answer = answer ≡ Err refusal

abbrev pub IsAnswer : Result PatternView StoreFault → Result PatternView StoreRefusal → Type 0
IsAnswer (Ok pattern) answer = answer ≡ Ok pattern
IsAnswer (Err e) answer = IsRefusal (refusal_of e) answer

-- memory did not run out
abbrev pub HasMemory : Result PatternView StoreFault → Type 0
HasMemory result = result ≢ Err fault.Memory
