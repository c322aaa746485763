-- The round trip holds.
use Rattle.loads.proofs.OwnLaws as own
use Rattle.demands.specs.RoundTrip.{SavedIsLoaded, SameTextSameRun, LoadedIsSaved}

pub saved_is_loaded : SavedIsLoaded
saved_is_loaded m p state k room old other s c sp long done = own.saved_loaded m p old long state k s c sp room done other

pub same_text_same_run : SameTextSameRun
same_text_same_run = own.same_text

pub loaded_is_saved : LoadedIsSaved
loaded_is_saved = own.loaded_again
