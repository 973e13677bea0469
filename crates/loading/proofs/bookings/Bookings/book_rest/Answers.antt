use Rattle.std.proofs.Common.{refl}
use Rattle.loading.proofs.bookings.Bookings.book_rest.Goals as goal

pub returns-in-Err : goal.returns-in-Err
returns-in-Err g c = λ joins words b. (c.book_words-booked.new.self.month, refl, c.in-Err.ensures joins words b)
