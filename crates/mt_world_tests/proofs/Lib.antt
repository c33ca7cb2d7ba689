mod Beside
