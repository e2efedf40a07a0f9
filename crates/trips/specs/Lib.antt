pub mod TripCalls
pub mod UndoneCalls
