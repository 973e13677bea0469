-- A file that is written is read back. Assumes nothing.
use Rattle.std.proofs.Common.{List, refl}
use Rattle.plan.specs.Contents.{Contents}
use Rattle.plan.specs.declared.booking.Booking.{Booking}
use Rattle.monthfile.specs.File.{file_of}
use Rattle.monthfile.specs.Inverse.{Fileable}
use Rattle.monthfile.proofs.Entire.{over, reads}
use Rattle.monthwriter.specs.Written.{ReadsBack}

pub file_reads_back : (plan : Contents) (bs : List Booking) → Fileable plan bs → ReadsBack plan bs (file_of plan bs)
file_reads_back plan bs f = record {
  whole = over (file_of plan bs) plan bs f refl;
  gives = reads (file_of plan bs) plan bs f refl;
}
