mod AtPlaces
mod Chosen
