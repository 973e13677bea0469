-- What a book holds, as plain values. The members of its source's trait say what the source means.
use Rattle.book.specs.Contents.{Contents, contents_of}
use Rattle.book.specs.declared.book.Book.{Book}
use Rattle.weights.specs.declared.source.WeightSource.{Ghosts as Source}

-- what a book holds
abbrev pub book_contents : {S : Type 0} {source : Source S} → Book S source → Contents
book_contents {source = source} book = contents_of book.tables (source.weights book.source)
